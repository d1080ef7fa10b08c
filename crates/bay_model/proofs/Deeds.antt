-- A fact of each deed that a single read or write comes to.
use Rattle.std.proofs.Common.{not, ◌≡◌, ℕ, Bool, true, false, List, [], ◌∷◌, refl}
use Rattle.std.specs.Prelude.{Result, Ok, Err, ◌==◌, ◌||◌, nat_lt, if◌then◌else◌}
use Rattle.sv_base.specs.declared.value.Value.{Value}
use Rattle.sv_base.specs.declared.value.Value.TheVariants as kinds
use Rattle.sv_base.specs.declared.components.Comp.{Comp}
use Rattle.bay_model.specs.Model as model
use Rattle.bay_model.specs.Model.{Model, Access, Role, Block, SettingComp, Call, Tree, single, selecting, calling, several, ActSG, EditSG, CnfEdit}
use Rattle.bay_model.specs.Lookups.{attr_of, node_of, control_of, groups_of}
use Rattle.bay_model.specs.Points.{Deed, wrote, put, copied, activated, edited, called, nothing, confirmed, selected_control, Past}
use Rattle.sv_base.specs.Kinds.{is_kind, is_in_range}
use Rattle.bay_model.specs.ComponentTable.{comp_kind}
use Rattle.bay_model.specs.Parameters.{parameters_at}
use Rattle.bay_model.specs.Blocks.{enabler, is_held}
use Rattle.bay_model.specs.Reservations.{is_reserved_for_another}
use Rattle.bay_model.specs.Calls.{Went, accepted, mistyped, barred, went, can_select}
use Rattle.bay_model.specs.Outcomes.{gave, did, deed_of, first_code, refused}
use Rattle.bay_model.specs.Reads.{read_role, read_tree, outcome_of_read}
use Rattle.bay_model.specs.Writes.{is_written, contradicts, is_of_nothing, act_refusals, attribute_refusals, holds_edit, is_edited_by_another, write_role, write_part, write_attribute, write_component, outcome_of_call}
use Rattle.bay_model.specs.Singles.{Single, reads, writes, fails, outcome_of}

-- the fact of each such deed of association a; past ends with the arrival of the single, an accepted write of a component
-- wasn't held, and one of EditSG or CnfEdit is of who may edit
pub record OfSingles (c : Model) (a : ℕ) (past : Past) (G : Deed → Type 0) : Type 0 where
  pub of_nothing : G nothing
  pub of_wrote : (b : ℕ) (comp : Comp) (v : Value) → (is_reserved_for_another b a past || is_held (λ e. e == a) comp v (enabler b past)) ≡ false → G (wrote a b comp v)
  pub of_put : (x : ℕ) (v : Value) → (attr_of c x).access ≡ model.writable → G (put a x v)
  pub of_copied : (x : ℕ) (v : Value) → G (copied a x v)
  pub of_activated : (d n : ℕ) → G (activated a d n)
  pub of_edited : (d n : ℕ) → is_edited_by_another a d past ≡ false → G (edited a d n)
  pub of_confirmed : (d : ℕ) → holds_edit a d past ≡ true → G (confirmed a d)
  pub of_called : (k : ℕ) (j : Call) (v : Value) → G (called a k j v)
  pub of_selected : (k : ℕ) → G (selected_control a k)

module _ (c : Model) (a : ℕ) (past : Past) (G : Deed → Type 0) (g : OfSingles c a past G) where
  code : (ts : List (Bool × ℕ)) (d : Deed) → G d → G (deed_of (first_code ts d))
  code [] d u = u
  code (t ∷ ts) d u = either t.0 (code ts d u) where
    either : (b : Bool) → G (deed_of (first_code ts d)) → G (deed_of (if b then refused t.1 else first_code ts d))
    either true u = g.of_nothing
    either false u = u

  part : (d : ℕ) (k : SettingComp) (v : Value) → G (deed_of (write_part c a d k v past))
  part d ActSG (kinds.Uint n) = code (act_refusals (groups_of c d).count n) (activated a d n) (g.of_activated d n)
  part d EditSG (kinds.Uint n) = either (is_edited_by_another a d past) refl where
    either : (b : Bool) → is_edited_by_another a d past ≡ b → G (deed_of (if b then refused 2 else first_code ((nat_lt (groups_of c d).count n, 11) ∷ []) (edited a d n)))
    either true is = g.of_nothing
    either false is = code ((nat_lt (groups_of c d).count n, 11) ∷ []) (edited a d n) (g.of_edited d n is)
  part d CnfEdit (kinds.Bool on) = either on (holds_edit a d past) refl where
    either : (on b : Bool) → holds_edit a d past ≡ b → G (deed_of (if not b then refused 2 else did (if on then confirmed a d else nothing)))
    either true true is = g.of_confirmed d is
    either false true is = g.of_nothing
    either on false is = g.of_nothing
  part d _ v = g.of_nothing

  attribute_ : (x : ℕ) (v : Value) (k : Access) → (attr_of c x).access ≡ k → G (deed_of (write_attribute c a x v k past))
  attribute_ x v model.writable e = code (attribute_refusals (attr_of c x).kind v false) (put a x v) (g.of_put x v e)
  attribute_ x v model.edited e = code (attribute_refusals (attr_of c x).kind v (not (holds_edit a (attr_of c x).domain past))) (copied a (attr_of c x).original v) (g.of_copied (attr_of c x).original v)
  attribute_ x v _ e = g.of_nothing

  call : (k : ℕ) (j : Call) (v : Value) (w : Went) → G (deed_of (outcome_of_call c a k j v w))
  call k j v accepted = g.of_called k j v
  call k j v mistyped = g.of_nothing
  call k j v (barred cause) = g.of_nothing

  -- the refusals of a component's write after that of one which is held
  abbrev refusals_further : (b : ℕ) → Comp → Value → List (Bool × ℕ)
  refusals_further b comp v = (contradicts comp v (parameters_at c b past), 8) ∷ (not (is_in_range (comp_kind comp) v) || is_of_nothing c b comp v past, 11) ∷ []

  pub component_ : (b : ℕ) (comp : Comp) (v : Value) → G (deed_of (write_component c a b comp v past))
  component_ b comp v = either (not (is_kind (comp_kind comp) v)) (not (is_written comp)) (is_reserved_for_another b a past || is_held (λ e. e == a) comp v (enabler b past)) refl where
    either : (x y z : Bool) → (is_reserved_for_another b a past || is_held (λ e. e == a) comp v (enabler b past)) ≡ z
        → G (deed_of (if x then refused 7 else (if y then refused 3 else (if z then refused 2 else first_code (refusals_further b comp v) (wrote a b comp v)))))
    either true y z e = g.of_nothing
    either false true z e = g.of_nothing
    either false false true e = g.of_nothing
    either false false false e = code (refusals_further b comp v) (wrote a b comp v) (g.of_wrote b comp v e)

  write : (r : Role) (v : Value) → G (deed_of (write_role c a r v past))
  write (single (model.attribute x)) v = attribute_ x v (attr_of c x).access refl
  write (single (model.component b comp)) v = component_ b comp v
  write (single (model.setting d k)) v = part d k v
  write (single model.withheld) v = g.of_nothing
  write (selecting k) v = g.of_nothing
  write (calling k j) v = call k j v (went c k j a v past)
  write several v = g.of_nothing

  read_result : (r : Result Value ℕ) → G (deed_of (outcome_of_read r))
  read_result (Ok v) = g.of_nothing
  read_result (Err code) = g.of_nothing

  read : (r : Role) (tree : Tree) → G (deed_of (read_role c a r tree past))
  read (single l) tree = read_result (read_tree c past tree)
  read (selecting k) tree = either (can_select c k past) where
    either : (b : Bool) → G (deed_of (if b then gave (kinds.Text (control_of c k).reference) (selected_control a k) else gave (kinds.Text []) nothing))
    either true = g.of_selected k
    either false = g.of_nothing
  read (calling k j) tree = read_result (read_tree c past tree)
  read several tree = read_result (read_tree c past tree)

  pub outcome : (s : Single) → G (deed_of (outcome_of c a s past))
  outcome (reads n) = read (node_of c n).role (node_of c n).tree
  outcome (writes n v) = write (node_of c n).role v
  outcome (fails k) = g.of_nothing
