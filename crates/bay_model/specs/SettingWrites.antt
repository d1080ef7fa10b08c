-- What comes of a write of an attribute or of a setting group block's component: its first refusal, or that it is accepted
-- (IEC 61850-7-2, SetDataValues, SelectActiveSG, SelectEditSG, SetEditSGValue and ConfirmEditSGValues).
use Rattle.std.specs.Prelude.{ℕ, List, Bool, Option, false, not, ◌||◌, ◌==◌, nat_lt, [], ◌∷◌, if◌then◌else◌}
use Rattle.sv_base.specs.declared.value.Value.{Value}
use Rattle.sv_base.specs.declared.value.Value.TheVariants as kinds
use Rattle.bay_model.specs.Model as model
use Rattle.bay_model.specs.Model.{Model, Access, Kind, SettingComp, ActSG, EditSG, CnfEdit}
use Rattle.bay_model.specs.Lookups.{attr_of, groups_of}
use Rattle.sv_base.specs.Kinds.{is_kind, is_in_range}
use Rattle.bay_model.specs.ComponentTable.{setting_comp_kind}
use Rattle.bay_model.specs.Points.{put, copied, activated, edited, confirmed, nothing, Past}
use Rattle.bay_model.specs.Settings.{Edit, edit, is_held_by, is_held_by_another}
use Rattle.bay_model.specs.Outcomes.{Outcome, refused, first_code}
use Rattle.bay_model.specs.declared.access_errors.TheConstants.{TEMPORARILY_UNAVAILABLE, OBJECT_ACCESS_DENIED, TYPE_INCONSISTENT, OBJECT_VALUE_INVALID}

-- a holds the edit of domain d
abbrev pub holds_edit : ℕ → ℕ → Past → Bool
holds_edit a d past = is_held_by a (edit d past)

-- another than a does
abbrev pub is_edited_by_another : ℕ → ℕ → Past → Bool
is_edited_by_another a d past = is_held_by_another a (edit d past)

-- the refusals of a's ActSG n, of its EditSG n and of its CnfEdit, after that of another kind; there are n groups
abbrev pub act_refusals : ℕ → ℕ → List (Bool × ℕ)
act_refusals count n = ((n == 0) || nat_lt count n, OBJECT_VALUE_INVALID) ∷ []

abbrev pub edit_refusals : ℕ → ℕ → ℕ → Option Edit → List (Bool × ℕ)
edit_refusals a count n edit = (is_held_by_another a edit, TEMPORARILY_UNAVAILABLE) ∷ (nat_lt count n, OBJECT_VALUE_INVALID) ∷ []

abbrev pub confirm_refusals : ℕ → Option Edit → List (Bool × ℕ)
confirm_refusals a edit = (not (is_held_by a edit), TEMPORARILY_UNAVAILABLE) ∷ []

-- the refusals of an attribute of a kind that a client may write; is_held where it stands under SE and the writer doesn't hold
-- the edit
abbrev pub attribute_refusals : Kind → Value → Bool → List (Bool × ℕ)
attribute_refusals kind v is_held = (not (is_kind kind v), TYPE_INCONSISTENT) ∷ (is_held, TEMPORARILY_UNAVAILABLE) ∷ (not (is_in_range kind v), OBJECT_VALUE_INVALID) ∷ []

-- a's write of a component of the setting group block of domain d
abbrev pub write_part : Model → ℕ → ℕ → SettingComp → Value → Past → Outcome
write_part c a d ActSG (kinds.Uint n) past = first_code (act_refusals (groups_of c d).count n) (activated a d n)
write_part c a d EditSG (kinds.Uint n) past = first_code (edit_refusals a (groups_of c d).count n (edit d past)) (edited a d n)
write_part c a d CnfEdit (kinds.Bool on) past = first_code (confirm_refusals a (edit d past)) (if on then confirmed a d else nothing)
write_part c a d part v past = refused (if is_kind (setting_comp_kind part) v then OBJECT_ACCESS_DENIED else TYPE_INCONSISTENT)

-- a's write of attribute x
abbrev pub write_attribute : Model → ℕ → ℕ → Value → Access → Past → Outcome
write_attribute c a x v model.writable past = first_code (attribute_refusals (attr_of c x).kind v false) (put a x v)
write_attribute c a x v model.edited past = first_code (attribute_refusals (attr_of c x).kind v (not (holds_edit a (attr_of c x).domain past))) (copied a (attr_of c x).original v)
write_attribute c a x v _ past = refused (if is_kind (attr_of c x).kind v then OBJECT_ACCESS_DENIED else TYPE_INCONSISTENT)
