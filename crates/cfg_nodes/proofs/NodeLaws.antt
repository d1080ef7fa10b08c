-- What lines make, with one more line.
use Rattle.std.proofs.Common.{◌≡◌, ◌≢◌, ℕ, ◌+◌, ◌<◌, List, [], ◌∷◌, ◌++◌, length, take, get_or, reverse, sym, ap, ◌∙◌, append_assoc}
use Rattle.std.proofs.lemmas.Bool.{ne_eqb}
use Rattle.std.proofs.lemmas.List.{take_more, reverse-append}
use Rattle.sv_base.specs.declared.ctl_services.CtlService.TheVariants as services
use Rattle.sv_base.specs.CtlServices.{service_name}
use Rattle.cfg_lines.specs.Paths.{below}
use Rattle.cfg_lines.specs.Claims.{operations}
use Rattle.cfg_lines.specs.Nodes.{leaves, leaves_by, with_parts, operation_parts, operations_below, closed, closed_by}
use Rattle.cfg_lines.specs.declared.line.Line.{Line}

pub reversed-more : (lines : List Line) (i : ℕ) (d : Line) → i < length lines → reverse (take (i + 1) lines) ≡ get_or lines i d ∷ reverse (take i lines)
reversed-more lines i d lt = ap reverse (take_more lines i d lt) ∙ reverse-append (take i lines) (get_or lines i d ∷ [])

pub leaves_more : (lines : List Line) (i : ℕ) (d : Line) → i < length lines → leaves (reverse (take (i + 1) lines)) ≡ leaves (reverse (take i lines)) ++ leaves_by (get_or lines i d)
leaves_more lines i d lt = ap leaves (reversed-more lines i d lt)

pub closed_more : (lines : List Line) (i : ℕ) (d : Line) → i < length lines → closed (reverse (take (i + 1) lines)) ≡ closed (reverse (take i lines)) ++ closed_by (get_or lines i d)
closed_more lines i d lt = ap closed (reversed-more lines i d lt)

-- what a control has under CO by its model
abbrev operated : List ℕ → List (List ℕ)
operated front = with_parts (below front (service_name services.Oper)) (operation_parts (service_name services.Oper))

abbrev selected : List ℕ → List ℕ → List (List ℕ)
selected front select = with_parts (below front select) (operation_parts select) ++ with_parts (below front (service_name services.Cancel)) (operation_parts (service_name services.Cancel))

pub direct_operations : (old mid : List (List ℕ)) (front : List ℕ) (model : ℕ) → mid ≡ old ++ operated front → model ≡ 2 → mid ++ selected front (service_name services.Sbo) ≡ old ++ operations_below front (operations model)
direct_operations old mid front model is two = ap (λ l. l ++ selected front (service_name services.Sbo)) is ∙ (append_assoc old (operated front) (selected front (service_name services.Sbo)) ∙ ap (λ m. old ++ operations_below front (operations m)) (sym two))

pub enhanced_operations : (old mid : List (List ℕ)) (front : List ℕ) (model : ℕ) → mid ≡ old ++ operated front → model ≡ 4 → mid ++ selected front (service_name services.SboWithValue) ≡ old ++ operations_below front (operations model)
enhanced_operations old mid front model is four = ap (λ l. l ++ selected front (service_name services.SboWithValue)) is ∙ (append_assoc old (operated front) (selected front (service_name services.SboWithValue)) ∙ ap (λ m. old ++ operations_below front (operations m)) (sym four))

pub plain_operations : (old mid : List (List ℕ)) (front : List ℕ) (model : ℕ) → mid ≡ old ++ operated front → model ≢ 2 → model ≢ 4 → mid ≡ old ++ operations_below front (operations model)
plain_operations old mid front model is p q = rw (ne_eqb model 2 p, ne_eqb model 4 q) is
