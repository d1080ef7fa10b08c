-- The kinds of the components of a report block and of a setting group block.
use Rattle.sv_base.specs.declared.components.Comp.{Comp}
use Rattle.sv_base.specs.declared.components.SettingComp.{SettingComp}
use Rattle.sv_base.specs.ComponentTable.{comp_type, setting_comp_type}
use Rattle.sv_base.specs.Kinds.{Kind, kind_of}

abbrev pub comp_kind : Comp → Kind
comp_kind comp = kind_of (comp_type comp)

abbrev pub setting_comp_kind : SettingComp → Kind
setting_comp_kind comp = kind_of (setting_comp_type comp)
