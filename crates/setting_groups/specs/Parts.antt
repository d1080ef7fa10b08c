-- The components of a setting group block, as clients read and write them (IEC 61850-7-2, GetSGCBValues, SelectActiveSG, SelectEditSG
-- and ConfirmEditSGValues).
use Rattle.std.specs.Prelude.{ℕ, Bool, true, false, Result, Ok, Err, if◌then◌else◌}
use Rattle.std.specs.Option.{option_map_or}
use Rattle.sv_base.specs.declared.value.Value.{Value}
use Rattle.sv_base.specs.declared.value.Value.TheVariants as kinds
use Rattle.sv_base.specs.declared.components.SettingComp.{SettingComp}
use Rattle.sv_base.specs.declared.components.SettingComp.TheVariants.{NumOfSG, ActSG, EditSG, CnfEdit, LActTm}
use Rattle.sv_base.specs.Kinds.{is_kind}
use Rattle.bay_model.specs.ComponentTable.{setting_comp_kind}
use Rattle.bay_model.specs.Components.{utc_of, no_utc}
use Rattle.bay_model.specs.Points.{Deed, activated, edited, confirmed, nothing}
use Rattle.setting_groups.specs.Grouped.{Domained, Grouped, act_answer, edit_answer, edit_number, stored_answer, number_in, is_on, after_act, after_edit, after_confirm}
use Rattle.bay_model.specs.declared.access_errors.TheConstants.{OBJECT_ACCESS_DENIED, TYPE_INCONSISTENT}

-- what a component reads
abbrev pub part_read : Domained → SettingComp → Value
part_read d NumOfSG = kinds.Uint d.count
part_read d ActSG = kinds.Uint d.active
part_read d EditSG = kinds.Uint (edit_number d)
part_read d CnfEdit = kinds.Bool false
part_read d LActTm = kinds.Time (option_map_or utc_of d.last no_utc)

abbrev pub told : {A : Type 0} → Bool → Result A ℕ → Result Bool ℕ
told is_set (Ok done) = Ok is_set
told is_set (Err code) = Err code

-- what a write is answered: whether it sets the values of the domain's SG attributes
abbrev pub part_answer : ℕ → Domained → SettingComp → Value → Result Bool ℕ
part_answer a d ActSG v = told true (act_answer d v)
part_answer a d EditSG v = told false (edit_answer a d v)
part_answer a d CnfEdit v = stored_answer a d v
part_answer a d part v = Err (if is_kind (setting_comp_kind part) v then OBJECT_ACCESS_DENIED else TYPE_INCONSISTENT)

-- what it makes of the groups
abbrev pub after_part : ℕ → ℕ → SettingComp → Value → ℕ → Grouped → Grouped
after_part d a ActSG v now s = after_act d (number_in v) now s
after_part d a EditSG v now s = after_edit d a (number_in v) s
after_part d a CnfEdit v now s = if is_on v then after_confirm d s else s
after_part d a part v now s = s

-- and what comes of it
abbrev pub part_deed : ℕ → ℕ → SettingComp → Value → Deed
part_deed a d ActSG v = activated a d (number_in v)
part_deed a d EditSG v = edited a d (number_in v)
part_deed a d CnfEdit v = if is_on v then confirmed a d else nothing
part_deed a d part v = nothing
