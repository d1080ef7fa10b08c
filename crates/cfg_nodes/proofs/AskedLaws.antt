-- What is wanted of more leaves, and what lines ask for.
use Rattle.std.proofs.Common.{◌≡◌, ◌≢◌, ℕ, ◌+◌, ◌<◌, true, List, [], ◌∷◌, ◌++◌, length, map, take, drop, get_or, reverse, refl, sym, ap, ◌∙◌, append_assoc}
use Rattle.std.proofs.lemmas.Bool.{or_left, or_right, ne_eqb}
use Rattle.std.proofs.lemmas.List.{reverse-append, take-append-drop}
use Rattle.std.proofs.lemmas.List.Elements.{filter-append}
use Rattle.std.proofs.lemmas.Slice.Eq.{bytes_eq-Decides}
use Rattle.std.specs.Str.{bytes_eq}
use Rattle.sv_base.specs.declared.parameters.CtlParameter.TheVariants.{CtlModel, SboTimeout, SboClass}
use Rattle.sv_base.specs.Parameters.{parameter_name}
use Rattle.cfg_lines.specs.declared.leaf.Leaf.{Leaf}
use Rattle.cfg_lines.specs.declared.line.Line.{Line}
use Rattle.cfg_lines.specs.declared.line.Line.TheVariants as lines
use Rattle.cfg_lines.specs.Keys.{is_among}
use Rattle.cfg_lines.specs.Claims.{settings}
use Rattle.cfg_lines.specs.Nodes.{leaves, leaves_by, setting_leaf}
use Rattle.cfg_lines.proofs.KeyLaws.{any-added}
use Rattle.cfg_nodes.specs.Asked.{with_asked, asked, is_asked, is_wanted, wanted}
use Rattle.cfg_nodes.proofs.NodeLaws.{reversed-more, leaves_more}

abbrev Names : Type 0
Names = List (List ℕ)

-- ---- what is wanted of more leaves
wanted-both : (refs : Names) (front back : List Leaf) → wanted refs (front ++ back) ≡ wanted refs front ++ wanted refs back
wanted-both refs front back = filter-append (λ leaf. is_wanted refs leaf.name) front back

-- added in two steps
pub wanted-steps : (refs : Names) (old mid front back : List Leaf) → mid ≡ old ++ wanted refs front → mid ++ wanted refs back ≡ old ++ wanted refs (front ++ back)
wanted-steps refs old mid front back is = ap (λ l. l ++ wanted refs back) is ∙ (append_assoc old (wanted refs front) (wanted refs back) ∙ ap (λ l. old ++ l) (sym (wanted-both refs front back)))

pub wanted-more : (refs : Names) (lines : List Line) (i : ℕ) (d : Line) → i < length lines
    → wanted refs (leaves (reverse (take (i + 1) lines))) ≡ wanted refs (leaves (reverse (take i lines))) ++ wanted refs (leaves_by (get_or lines i d))
wanted-more refs lines i d lt = ap (wanted refs) (leaves_more lines i d lt) ∙ wanted-both refs (leaves (reverse (take i lines))) (leaves_by (get_or lines i d))

-- what a control has under CF by its model
abbrev model_leaf : List ℕ → List Leaf
model_leaf front = map (setting_leaf front) (parameter_name CtlModel ∷ [])

abbrev selection_leaves : List ℕ → List Leaf
selection_leaves front = map (setting_leaf front) (parameter_name SboTimeout ∷ parameter_name SboClass ∷ [])

module _ (refs : Names) (old mid : List Leaf) (front : List ℕ) (model : ℕ) (is : mid ≡ old ++ wanted refs (model_leaf front)) where
  pub direct_settings : model ≡ 2 → mid ++ wanted refs (selection_leaves front) ≡ old ++ wanted refs (map (setting_leaf front) (settings model))
  direct_settings two = wanted-steps refs old mid (model_leaf front) (selection_leaves front) is ∙ ap (λ m. old ++ wanted refs (map (setting_leaf front) (settings m))) (sym two)

  pub enhanced_settings : model ≡ 4 → mid ++ wanted refs (selection_leaves front) ≡ old ++ wanted refs (map (setting_leaf front) (settings model))
  enhanced_settings four = wanted-steps refs old mid (model_leaf front) (selection_leaves front) is ∙ ap (λ m. old ++ wanted refs (map (setting_leaf front) (settings m))) (sym four)

  pub plain_settings : model ≢ 2 → model ≢ 4 → mid ≡ old ++ wanted refs (map (setting_leaf front) (settings model))
  plain_settings p q = rw (ne_eqb model 2 p, ne_eqb model 4 q) is

-- ---- a line's reference is among those of all lines
asked-here : (line : Line) (refs : Names) → is_asked (with_asked refs line) line ≡ true
asked-here (lines.Member reference) refs = any-added (bytes_eq reference) refs reference ∙ or_left _ _ ((bytes_eq-Decides reference reference).1 refl)
asked-here line refs = refl

among-more : (line : Line) (refs : Names) (reference : List ℕ) → is_among refs reference ≡ true → is_among (with_asked refs line) reference ≡ true
among-more (lines.Member other) refs reference is = any-added (bytes_eq reference) refs other ∙ or_right (bytes_eq reference other) _ is
among-more line refs reference is = is

asked-more : (line further : Line) (refs : Names) → is_asked refs line ≡ true → is_asked (with_asked refs further) line ≡ true
asked-more (lines.Member reference) further refs is = among-more further refs reference is
asked-more line further refs is = refl

asked-behind : (more before : List Line) (line : Line) → is_asked (asked before) line ≡ true → is_asked (asked (more ++ before)) line ≡ true
asked-behind [] before line is = is
asked-behind (further ∷ more) before line is = asked-more line further (asked (more ++ before)) (asked-behind more before line is)

pub asked-at : (lines : List Line) (i : ℕ) (d : Line) → i < length lines → is_asked (asked (reverse lines)) (get_or lines i d) ≡ true
asked-at lines i d lt =
    let line = get_or lines i d in
    let split : reverse lines ≡ reverse (drop (i + 1) lines) ++ reverse (take (i + 1) lines) = ap reverse (sym (take-append-drop (i + 1) lines)) ∙ reverse-append (take (i + 1) lines) (drop (i + 1) lines) in
    ap (λ all. is_asked (asked all) line) split
    ∙ asked-behind (reverse (drop (i + 1) lines)) (reverse (take (i + 1) lines)) line
    (ap (λ all. is_asked (asked all) line) (reversed-more lines i d lt) ∙ asked-here line (asked (reverse (take i lines))))
