-- A fact of each deed that a single read or write of a comes to; an Oper is accepted.
use Rattle.std.proofs.Common.{not, ◌≡◌, ℕ, Bool, true, false, List, [], ◌∷◌, refl}
use Rattle.std.specs.Prelude.{⊤, Result, Ok, Err, ◌==◌, ◌||◌, if◌then◌else◌}
use Rattle.sv_base.specs.declared.value.Value.{Value}
use Rattle.sv_base.specs.declared.value.Value.TheVariants as kinds
use Rattle.sv_base.specs.declared.components.Comp.{Comp}
use Rattle.sv_base.specs.declared.components.SettingComp.{SettingComp}
use Rattle.sv_base.specs.declared.components.SettingComp.TheVariants.{ActSG, EditSG, CnfEdit}
use Rattle.bay_model.specs.Model as model
use Rattle.bay_model.specs.Model.{Model, Access, Role, Block, Call, Tree, single, selecting, calling, several, select, operate, cancel}
use Rattle.bay_model.specs.Lookups.{attr_of, node_of, control_of, groups_of}
use Rattle.bay_model.specs.Points.{Deed, wrote, put, copied, activated, edited, called, lost, valued, blocked, reported, nothing, confirmed, selected_control, Past}
use Rattle.sv_base.specs.Kinds.{is_kind, is_in_range}
use Rattle.bay_model.specs.ComponentTable.{comp_kind}
use Rattle.bay_model.specs.Parameters.{parameters_at}
use Rattle.bay_model.specs.Settings.{edit}
use Rattle.bay_model.specs.Blocks.{enabler, is_held}
use Rattle.bay_model.specs.Reservations.{is_reserved_for_another}
use Rattle.bay_model.specs.Calls.{Went, accepted, mistyped, barred, went, can_select}
use Rattle.bay_model.specs.Outcomes.{gave, deed_of, first_code, refused}
use Rattle.bay_model.specs.Reads.{read_role, read_tree, outcome_of_read}
use Rattle.bay_model.specs.Writes.{is_written, contradicts, is_of_nothing, act_refusals, edit_refusals, confirm_refusals, attribute_refusals, holds_edit, write_role, write_part, write_attribute, write_component, outcome_of_call}
use Rattle.bay_model.specs.Singles.{Single, reads, writes, fails, outcome_of}

-- a deed of a single that isn't an Oper
abbrev pub IsQuiet : Deed → Type 0
IsQuiet nothing = ⊤
IsQuiet (wrote a b comp v) = ⊤
IsQuiet (put a x v) = ⊤
IsQuiet (copied a x v) = ⊤
IsQuiet (activated a d n) = ⊤
IsQuiet (edited a d n) = ⊤
IsQuiet (confirmed a d) = ⊤
IsQuiet (called a k select v) = ⊤
IsQuiet (called a k cancel v) = ⊤
IsQuiet (selected_control a k) = ⊤
IsQuiet (valued s) = ⊤
IsQuiet (blocked k flag) = ⊤
IsQuiet (reported a b i) = ⊤
IsQuiet _ = ⊥

-- a deed that concerns no selection
abbrev pub IsBare : Deed → Type 0
IsBare (called a k j v) = ⊥
IsBare (selected_control a k) = ⊥
IsBare (lost a) = ⊥
IsBare _ = ⊤

-- a write of a component
code-quiet : (ts : List (Bool × ℕ)) (d : Deed) → IsQuiet d → IsQuiet (deed_of (first_code ts d))
code-quiet [] d u = u
code-quiet (t ∷ ts) d u = either t.0 (code-quiet ts d u) where
  either : (b : Bool) → IsQuiet (deed_of (first_code ts d)) → IsQuiet (deed_of (if b then refused t.1 else first_code ts d))
  either true u = tt
  either false u = u

pub write-quiet : (c : Model) (a b : ℕ) (comp : Comp) (v : Value) (past : Past) → IsQuiet (deed_of (write_component c a b comp v past))
write-quiet c a b comp v past = either (not (is_kind (comp_kind comp) v)) (not (is_written comp)) (is_reserved_for_another b a past || is_held (λ e. e == a) comp v (enabler b past)) where
  either : (x y z : Bool) → IsQuiet (deed_of (if x then refused 7 else (if y then refused 3 else (if z then refused 2 else first_code ((contradicts comp v (parameters_at c b past), 8) ∷ (not (is_in_range (comp_kind comp) v) || is_of_nothing c b comp v past, 11) ∷ []) (wrote a b comp v)))))
  either true y z = tt
  either false true z = tt
  either false false true = tt
  either false false false = code-quiet ((contradicts comp v (parameters_at c b past), 8) ∷ (not (is_in_range (comp_kind comp) v) || is_of_nothing c b comp v past, 11) ∷ []) (wrote a b comp v) tt

code-bare : (ts : List (Bool × ℕ)) (d : Deed) → IsBare d → IsBare (deed_of (first_code ts d))
code-bare [] d u = u
code-bare (t ∷ ts) d u = either t.0 (code-bare ts d u) where
  either : (b : Bool) → IsBare (deed_of (first_code ts d)) → IsBare (deed_of (if b then refused t.1 else first_code ts d))
  either true u = tt
  either false u = u

pub write-bare : (c : Model) (a b : ℕ) (comp : Comp) (v : Value) (past : Past) → IsBare (deed_of (write_component c a b comp v past))
write-bare c a b comp v past = either (not (is_kind (comp_kind comp) v)) (not (is_written comp)) (is_reserved_for_another b a past || is_held (λ e. e == a) comp v (enabler b past)) where
  either : (x y z : Bool) → IsBare (deed_of (if x then refused 7 else (if y then refused 3 else (if z then refused 2 else first_code ((contradicts comp v (parameters_at c b past), 8) ∷ (not (is_in_range (comp_kind comp) v) || is_of_nothing c b comp v past, 11) ∷ []) (wrote a b comp v)))))
  either true y z = tt
  either false true z = tt
  either false false true = tt
  either false false false = code-bare ((contradicts comp v (parameters_at c b past), 8) ∷ (not (is_in_range (comp_kind comp) v) || is_of_nothing c b comp v past, 11) ∷ []) (wrote a b comp v) tt

pub record OfSingles (c : Model) (a : ℕ) (past : Past) (G : Deed → Type 0) : Type 0 where
  pub of_quiet : (d : Deed) → IsQuiet d → IsBare d → G d
  pub of_called : (k : ℕ) (j : Call) (v : Value) → went c k j a v past ≡ accepted → G (called a k j v)
  pub of_selected : (k : ℕ) → can_select c k past ≡ true → G (selected_control a k)

module _ (c : Model) (a : ℕ) (past : Past) (G : Deed → Type 0) (g : OfSingles c a past G) where
  code : (ts : List (Bool × ℕ)) (d : Deed) → G d → G (deed_of (first_code ts d))
  code [] d u = u
  code (t ∷ ts) d u = either t.0 (code ts d u) where
    either : (b : Bool) → G (deed_of (first_code ts d)) → G (deed_of (if b then refused t.1 else first_code ts d))
    either true u = g.of_quiet nothing tt tt
    either false u = u

  part : (d : ℕ) (k : SettingComp) (v : Value) → G (deed_of (write_part c a d k v past))
  part d ActSG (kinds.Uint n) = code (act_refusals (groups_of c d).count n) (activated a d n) (g.of_quiet (activated a d n) tt tt)
  part d EditSG (kinds.Uint n) = code (edit_refusals a (groups_of c d).count n (edit d past)) (edited a d n) (g.of_quiet (edited a d n) tt tt)
  part d CnfEdit (kinds.Bool on) = code (confirm_refusals a (edit d past)) (if on then confirmed a d else nothing) (either on) where
    either : (b : Bool) → G (if b then confirmed a d else nothing)
    either true = g.of_quiet (confirmed a d) tt tt
    either false = g.of_quiet nothing tt tt
  part d _ v = g.of_quiet nothing tt tt

  attribute_ : (x : ℕ) (v : Value) (k : Access) → G (deed_of (write_attribute c a x v k past))
  attribute_ x v model.writable = code (attribute_refusals (attr_of c x).kind v false) (put a x v) (g.of_quiet (put a x v) tt tt)
  attribute_ x v model.edited = code (attribute_refusals (attr_of c x).kind v (not (holds_edit a (attr_of c x).domain past))) (copied a (attr_of c x).original v) (g.of_quiet (copied a (attr_of c x).original v) tt tt)
  attribute_ x v _ = g.of_quiet nothing tt tt

  call : (k : ℕ) (j : Call) (v : Value) (w : Went) → went c k j a v past ≡ w → G (deed_of (outcome_of_call c a k j v w))
  call k j v accepted e = g.of_called k j v e
  call k j v mistyped e = g.of_quiet nothing tt tt
  call k j v (barred cause) e = g.of_quiet nothing tt tt

  abbrev refusals_further : (b : ℕ) → Comp → Value → List (Bool × ℕ)
  refusals_further b comp v = (contradicts comp v (parameters_at c b past), 8) ∷ (not (is_in_range (comp_kind comp) v) || is_of_nothing c b comp v past, 11) ∷ []

  pub component_ : (b : ℕ) (comp : Comp) (v : Value) → G (deed_of (write_component c a b comp v past))
  component_ b comp v = either (not (is_kind (comp_kind comp) v)) (not (is_written comp)) (is_reserved_for_another b a past || is_held (λ e. e == a) comp v (enabler b past)) where
    either : (x y z : Bool) → G (deed_of (if x then refused 7 else (if y then refused 3 else (if z then refused 2 else first_code (refusals_further b comp v) (wrote a b comp v)))))
    either true y z = g.of_quiet nothing tt tt
    either false true z = g.of_quiet nothing tt tt
    either false false true = g.of_quiet nothing tt tt
    either false false false = code (refusals_further b comp v) (wrote a b comp v) (g.of_quiet (wrote a b comp v) tt tt)

  write : (r : Role) (v : Value) → G (deed_of (write_role c a r v past))
  write (single (model.attribute x)) v = attribute_ x v (attr_of c x).access
  write (single (model.component b comp)) v = component_ b comp v
  write (single (model.setting d k)) v = part d k v
  write (single model.withheld) v = g.of_quiet nothing tt tt
  write (selecting k) v = g.of_quiet nothing tt tt
  write (calling k j) v = call k j v (went c k j a v past) refl
  write several v = g.of_quiet nothing tt tt

  read_result : (r : Result Value ℕ) → G (deed_of (outcome_of_read r))
  read_result (Ok v) = g.of_quiet nothing tt tt
  read_result (Err code) = g.of_quiet nothing tt tt

  read : (r : Role) (tree : Tree) → G (deed_of (read_role c a r tree past))
  read (single l) tree = read_result (read_tree c past tree)
  read (selecting k) tree = either (can_select c k past) refl where
    either : (b : Bool) → can_select c k past ≡ b → G (deed_of (if b then gave (kinds.Text (control_of c k).reference) (selected_control a k) else gave (kinds.Text []) nothing))
    either true e = g.of_selected k e
    either false e = g.of_quiet nothing tt tt
  read (calling k j) tree = read_result (read_tree c past tree)
  read several tree = read_result (read_tree c past tree)

  pub outcome : (s : Single) → G (deed_of (outcome_of c a s past))
  outcome (reads n) = read (node_of c n).role (node_of c n).tree
  outcome (writes n v) = write (node_of c n).role v
  outcome (fails k) = g.of_quiet nothing tt tt
