-- What a single read or write comes to: an accepted Oper, or what leaves all queues and all executions as they are.
use Rattle.std.proofs.Common.{not, ◌≡◌, ◌≤◌, ◌⊎◌, inl, inr, ℕ, Bool, true, false, List, [], ◌∷◌, refl, arith}
use Rattle.std.specs.Prelude.{Result, Ok, Err, ◌==◌, ◌||◌, if◌then◌else◌}
use Rattle.sv_base.specs.declared.value.Value.{Value}
use Rattle.sv_base.specs.declared.value.Value.TheVariants as kinds
use Rattle.sv_base.specs.declared.components.Comp.{Comp}
use Rattle.bay_model.specs.Model as model
use Rattle.sv_base.specs.declared.components.SettingComp.{SettingComp}
use Rattle.sv_base.specs.declared.components.SettingComp.TheVariants.{ActSG, EditSG, CnfEdit}
use Rattle.bay_model.specs.Model.{Model, Access, Role, Call, Tree, single, selecting, calling, several, select, operate, cancel}
use Rattle.bay_model.specs.Lookups.{attr_of, node_of, control_of, groups_of}
use Rattle.bay_model.specs.Points.{Deed, opened, lost, finished, wrote, put, copied, activated, edited, called, answered, took, terminated, nothing, confirmed, selected_control, Past}
use Rattle.sv_base.specs.Kinds.{is_kind, is_in_range}
use Rattle.bay_model.specs.ComponentTable.{comp_kind}
use Rattle.bay_model.specs.Parameters.{parameters_at}
use Rattle.bay_model.specs.Settings.{edit}
use Rattle.bay_model.specs.Blocks.{enabler, is_held}
use Rattle.bay_model.specs.Reservations.{is_reserved_for_another}
use Rattle.bay_model.specs.Calls.{Went, accepted, mistyped, barred, went, can_select}
use Rattle.bay_model.specs.Controls.{is_enhanced}
use Rattle.bay_model.specs.Outcomes.{gave, deed_of, first_code, refused}
use Rattle.bay_model.specs.Reads.{read_role, read_tree, outcome_of_read}
use Rattle.bay_model.specs.Writes.{is_written, contradicts, is_of_nothing, act_refusals, edit_refusals, confirm_refusals, attribute_refusals, holds_edit, write_role, write_part, write_attribute, write_component, outcome_of_call}
use Rattle.bay_model.specs.Singles.{Single, reads, writes, fails, outcome_of}
use Rattle.history_laws.specs.Opers.{opers_at}

-- it opens and loses nothing, runs and ends no command, puts no reply and gives none
abbrev pub IsStill : Deed → Type 0
IsStill (opened e opener writer size owner) = ⊥
IsStill (lost e) = ⊥
IsStill (answered e output change) = ⊥
IsStill (took e) = ⊥
IsStill (terminated e k) = ⊥
IsStill (finished k good) = ⊥
IsStill (called e k operate v) = ⊥
IsStill _ = Unit {0}

-- one, or none
abbrev pub one_if : Bool → ℕ
one_if b = if b then 1 else 0

abbrev pub opers_single : Model → Single → ℕ
opers_single c (writes n v) = opers_at c (node_of c n).role
opers_single c _ = 0

-- a's Oper, which is one of that many
abbrev pub IsOper : Model → ℕ → ℕ → Deed → Type 0
IsOper c a n d = (k : ℕ) × (v : Value) × (d ≡ called a k operate v) × (one_if (is_enhanced c k) ≤ n)

abbrev pub IsOne : Model → ℕ → ℕ → Deed → Type 0
IsOne c a n d = IsStill d ⊎ IsOper c a n d

module _ (c : Model) (past : Past) where
  code : (ts : List (Bool × ℕ)) (d : Deed) → IsStill d → IsStill (deed_of (first_code ts d))
  code [] d u = u
  code (t ∷ ts) d u = either t.0 (code ts d u) where
    either : (b : Bool) → IsStill (deed_of (first_code ts d)) → IsStill (deed_of (if b then refused t.1 else first_code ts d))
    either true u = tt
    either false u = u

  part : (a d : ℕ) (k : SettingComp) (v : Value) → IsStill (deed_of (write_part c a d k v past))
  part a d ActSG (kinds.Uint n) = code (act_refusals (groups_of c d).count n) (activated a d n) tt
  part a d EditSG (kinds.Uint n) = code (edit_refusals a (groups_of c d).count n (edit d past)) (edited a d n) tt
  part a d CnfEdit (kinds.Bool on) = code (confirm_refusals a (edit d past)) (if on then confirmed a d else nothing) (either on) where
    either : (b : Bool) → IsStill (if b then confirmed a d else nothing)
    either true = tt
    either false = tt
  part a d _ v = tt

  attribute_ : (a x : ℕ) (v : Value) (k : Access) → IsStill (deed_of (write_attribute c a x v k past))
  attribute_ a x v model.writable = code (attribute_refusals (attr_of c x).kind v false) (put a x v) tt
  attribute_ a x v model.edited = code (attribute_refusals (attr_of c x).kind v (not (holds_edit a (attr_of c x).domain past))) (copied a (attr_of c x).original v) tt
  attribute_ a x v _ = tt

  abbrev refusals_further : (b : ℕ) → Comp → Value → List (Bool × ℕ)
  refusals_further b comp v = (contradicts comp v (parameters_at c b past), 8) ∷ (not (is_in_range (comp_kind comp) v) || is_of_nothing c b comp v past, 11) ∷ []

  pub component_ : (a b : ℕ) (comp : Comp) (v : Value) → IsStill (deed_of (write_component c a b comp v past))
  component_ a b comp v = either (not (is_kind (comp_kind comp) v)) (not (is_written comp)) (is_reserved_for_another b a past || is_held (λ e. e == a) comp v (enabler b past)) where
    either : (x y z : Bool) → IsStill (deed_of (if x then refused 7 else (if y then refused 3 else (if z then refused 2 else first_code (refusals_further b comp v) (wrote a b comp v)))))
    either true y z = tt
    either false true z = tt
    either false false true = tt
    either false false false = code (refusals_further b comp v) (wrote a b comp v) tt

  call : (a k : ℕ) (j : Call) (v : Value) (w : Went) → IsOne c a (opers_at c (calling k j)) (deed_of (outcome_of_call c a k j v w))
  call a k select v accepted = inl tt
  call a k operate v accepted = inr (k, v, refl, omega arith)
  call a k cancel v accepted = inl tt
  call a k j v mistyped = inl tt
  call a k j v (barred cause) = inl tt

  write : (a : ℕ) (r : Role) (v : Value) → IsOne c a (opers_at c r) (deed_of (write_role c a r v past))
  write a (single (model.attribute x)) v = inl (attribute_ a x v (attr_of c x).access)
  write a (single (model.component b comp)) v = inl (component_ a b comp v)
  write a (single (model.setting d k)) v = inl (part a d k v)
  write a (single model.withheld) v = inl tt
  write a (selecting k) v = inl tt
  write a (calling k j) v = call a k j v (went c k j a v past)
  write a several v = inl tt

  read_result : (r : Result Value ℕ) → IsStill (deed_of (outcome_of_read r))
  read_result (Ok v) = tt
  read_result (Err code) = tt

  read : (a : ℕ) (r : Role) (tree : Tree) → IsStill (deed_of (read_role c a r tree past))
  read a (single l) tree = read_result (read_tree c past tree)
  read a (selecting k) tree = either (can_select c k past) where
    either : (b : Bool) → IsStill (deed_of (if b then gave (kinds.Text (control_of c k).reference) (selected_control a k) else gave (kinds.Text []) nothing))
    either true = tt
    either false = tt
  read a (calling k j) tree = read_result (read_tree c past tree)
  read a several tree = read_result (read_tree c past tree)

  pub outcome : (a : ℕ) (s : Single) → IsOne c a (opers_single c s) (deed_of (outcome_of c a s past))
  outcome a (reads n) = inl (read a (node_of c n).role (node_of c n).tree)
  outcome a (writes n v) = write a (node_of c n).role v
  outcome a (fails k) = inl tt
