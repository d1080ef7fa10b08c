-- The error that a command would have, by the controls of a bay.
use Rattle.std.proofs.Common.{◌≡◌, ◌≤◌, ◌∙◌, ◌∷◌, ℕ, zero, suc, List, [], map, Option, None, Some, refl, ap, subst, arith, unwrap_or}
use Rattle.std.specs.Prelude.{slice_get, slice_index_or, slice_set}
use Rattle.std.proofs.lemmas.List.{get_or-set_other}
use Rattle.list_laws.proofs.Options.{some_is}
use Rattle.sv_base.specs.declared.config.Config.{Config}
use Rattle.sv_base.specs.declared.value.Value.{Value}
use Rattle.name_leaves.specs.declared.what.What.{What}
use Rattle.name_leaves.specs.declared.what.What.TheVariants as whats
use Rattle.name_leaves.specs.Seen.{role_seen}
use Rattle.bay_model.specs.declared.control.ApplError.{ApplError}
use Rattle.bay_model.specs.Configured.{control_defined}
use Rattle.bay_model.specs.Lookups.{node_of}
use Rattle.bay_model.specs.Model.{Call, Control, Role, single, selecting, calling, several}
use Rattle.bay_model.specs.Named.{configured_model}
use Rattle.control_core.specs.Tables.{no_control}
use Rattle.bay_queues.specs.Calling.{blame_in, blame_of}
use Rattle.bay_core.specs.Commanded.{IsNoCommand, blame_at, blame_by}

control-at : (cs : List Control) (k : ℕ) → slice_index_or cs k no_control ≡ unwrap_or (slice_get cs k) no_control
control-at [] k = refl
control-at (c ∷ cs) zero = refl
control-at (c ∷ cs) (suc k) = control-at cs k

module _ (c : Config) (n : ℕ) (v : Value) where
  -- the blame of a command
  pub blame-told : (k : ℕ) (call : Call) → role_seen (whats.Calling k call) ≡ (node_of (configured_model c) n).role → blame_in (map control_defined c.controls) k call v ≡ blame_at c n v
  blame-told k call role =
      ap (λ (q : Control). blame_of q call v) (control-at (map control_defined c.controls) k)
      ∙ ap (λ (r : Role). blame_by c r v) role

-- what isn't one has none
plain-role : (w : What) → ((k : ℕ) (call : Call) → w ≡ whats.Calling k call → ⊥) → IsNoCommand (role_seen w)
plain-role (whats.Calling k call) none = absurd (none k call refl)
plain-role (whats.Selecting k) none = tt
plain-role (whats.Attribute x) none = tt
plain-role (whats.Component b comp) none = tt
plain-role (whats.Setting d part) none = tt
plain-role whats.Withheld none = tt
plain-role whats.Structure none = tt

pub role-plain : (w : What) (r : Role) → ((k : ℕ) (call : Call) → w ≡ whats.Calling k call → ⊥) → role_seen w ≡ r → IsNoCommand r
role-plain w r none is = subst IsNoCommand is (plain-role w none)

pub no-blame : (c : Config) (v : Value) (r : Role) → IsNoCommand r → None ≡ blame_by c r v
no-blame c v (single l) is = refl
no-blame c v (selecting k) is = refl
no-blame c v (calling k call) is = absurd is
no-blame c v several is = refl

-- ---- those of a request, each taken in its turn

-- the others stay
pub left-blames : (bs cs : List (Option ApplError)) (i : ℕ) (b : Option ApplError) → ((k : ℕ) → i ≤ k → slice_index_or bs k None ≡ slice_index_or cs k None) → (k : ℕ) → suc i ≤ k → slice_index_or (slice_set bs i b) k None ≡ slice_index_or cs k None
left-blames bs cs i b same k above = get_or-set_other bs i k b None (λ e. omega (arith, above, e)) ∙ same k (omega (arith, above))

pub blame-at : {A : Type 0} (f : A → Option ApplError) (xs : List A) (i : ℕ) (x : A) → slice_get xs i ≡ Some x → slice_index_or (map f xs) i None ≡ f x
blame-at f [] i x is = cc
blame-at f (y ∷ ys) zero x is = ap f (some_is y x is)
blame-at f (y ∷ ys) (suc i) x is = blame-at f ys i x is
