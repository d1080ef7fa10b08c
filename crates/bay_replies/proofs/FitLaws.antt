-- What a request that fits asks for is there.
use Rattle.std.proofs.Common.{◌≡◌, ◌<◌, ℕ, Bool, true, List, [], ◌∷◌, length, subst}
use Rattle.std.specs.Prelude.{nat_lt}
use Rattle.std.specs.List.{All, list_all}
use Rattle.std.proofs.lemmas.Bool.{ltb-true}
use Rattle.std.proofs.lemmas.List.Elements.{All-nil, All-cons}
use Rattle.sv_base.specs.declared.config.Config.{Config}
use Rattle.bay_model.specs.declared.request.Service.{Service}
use Rattle.bay_model.specs.declared.request.Service.TheVariants as services
use Rattle.bay_model.specs.declared.request.Target.{Target}
use Rattle.bay_model.specs.declared.request.Target.TheVariants as targets
use Rattle.bay_model.specs.Named.{nodes}
use Rattle.object_model.specs.Fits.{Counts, target_fits, name_fits}
use Rattle.object_model.specs.Nodes.{node_rows}
use Rattle.object_model.proofs.TableLaws.{count-rows}
use Rattle.set_view.specs.Shapes.{AreThere}
use Rattle.data_sets.specs.Books.{Book, set_at}
use Rattle.bay_replies.specs.Asking.{IsFitting}
use Rattle.bay_replies.specs.Reading.{IsTarget}
use Rattle.list_laws.proofs.Truths.{and-left, and-right}

module _ (c : Config) where
  abbrev counts : Counts
  counts = record { nodes = length (node_rows c); blocks = length c.blocks; controls = length c.controls }

  target-there : (t : Target) → target_fits counts t ≡ true → IsTarget c t
  target-there (targets.Node n name) h = subst (λ k. n.0 < k) (count-rows c) (ltb-true n.0 (length (node_rows c)) (and-left (nat_lt n.0 (length (node_rows c))) (name_fits name) h))
  target-there (targets.Missing name) h = tt
  target-there (targets.Alternate name) h = tt

  all-there : (ts : List Target) → list_all (target_fits counts) ts ≡ true → All (IsTarget c) ts
  all-there [] h = All-nil (IsTarget c)
  all-there (t ∷ ts) h = All-cons (IsTarget c) t ts (target-there t (and-left (target_fits counts t) (list_all (target_fits counts) ts) h)) (all-there ts (and-right (target_fits counts t) (list_all (target_fits counts) ts) h))

  -- the variables of a read
  pub targets-there : (s : Service) (ts : List Target) (spec : Bool) → s ≡ services.Read ts spec → IsFitting c s → All (IsTarget c) ts
  targets-there s ts spec is h = all-there ts (subst (IsFitting c) is h)

  -- the members of data sets
  pub members-there : (book : Book) → ((k : ℕ) → k < length book.sets → AreThere (length (node_rows c)) (set_at book k).nodes) → (k : ℕ) → k < length book.sets → AreThere (length (nodes c)) (set_at book k).nodes
  members-there book h k below = subst (λ n. AreThere n (set_at book k).nodes) (count-rows c) (h k below)
