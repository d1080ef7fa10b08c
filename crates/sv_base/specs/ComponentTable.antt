-- The components of a report block and of a setting group block, with their names and types (IEC 61850-7-2, BRCB and
-- SGCB attributes; IEC 61850-8-1, their names and MMS types).
use Rattle.std.specs.Prelude.{ℕ, List, [], ◌∷◌, Option, codes}
use Rattle.std.specs.List.{find}
use Rattle.std.specs.Str.{bytes_eq}
use Rattle.sv_base.specs.declared.components.Comp.{Comp}
use Rattle.sv_base.specs.declared.components.Comp.TheVariants as comps
use Rattle.sv_base.specs.declared.components.SettingComp.{SettingComp}
use Rattle.sv_base.specs.declared.components.SettingComp.TheVariants.{NumOfSG, ActSG, EditSG, CnfEdit, LActTm}
use Rattle.sv_base.specs.declared.types.TypeOf.{TypeOf}
use Rattle.sv_base.specs.declared.types.TypeOf.TheVariants as types

-- ---- of a report block, in the order of its type

abbrev pub components : List Comp
components = comps.RptID ∷ comps.RptEna ∷ comps.DatSet ∷ comps.ConfRev ∷ comps.OptFlds ∷ comps.BufTm ∷ comps.SqNum ∷ comps.TrgOps ∷ comps.IntgPd ∷ comps.GI ∷ comps.PurgeBuf ∷ comps.EntryID ∷ comps.TimeofEntry ∷ comps.ResvTms ∷ comps.Owner ∷ []

abbrev pub comp_name : Comp → List ℕ
comp_name comps.RptID = codes "RptID"
comp_name comps.RptEna = codes "RptEna"
comp_name comps.DatSet = codes "DatSet"
comp_name comps.ConfRev = codes "ConfRev"
comp_name comps.OptFlds = codes "OptFlds"
comp_name comps.BufTm = codes "BufTm"
comp_name comps.SqNum = codes "SqNum"
comp_name comps.TrgOps = codes "TrgOps"
comp_name comps.IntgPd = codes "IntgPd"
comp_name comps.GI = codes "GI"
comp_name comps.PurgeBuf = codes "PurgeBuf"
comp_name comps.EntryID = codes "EntryID"
comp_name comps.TimeofEntry = codes "TimeofEntry"
comp_name comps.ResvTms = codes "ResvTms"
comp_name comps.Owner = codes "Owner"

-- the types of a report block's components
abbrev pub comp_type : Comp → TypeOf
comp_type comps.RptID = types.Text 129
comp_type comps.RptEna = types.Bool
comp_type comps.DatSet = types.Text 129
comp_type comps.ConfRev = types.Uint 32
comp_type comps.OptFlds = types.Bits 10
comp_type comps.BufTm = types.Uint 32
comp_type comps.SqNum = types.Uint 16
comp_type comps.TrgOps = types.Bits 6
comp_type comps.IntgPd = types.Uint 32
comp_type comps.GI = types.Bool
comp_type comps.PurgeBuf = types.Bool
comp_type comps.EntryID = types.EntryId
comp_type comps.TimeofEntry = types.Stamp
comp_type comps.ResvTms = types.Int 16
comp_type comps.Owner = types.Octets 64

-- the component of a name, if there is one
abbrev pub comp_named : List ℕ → Option Comp
comp_named name = find (λ k. bytes_eq name (comp_name k)) components

-- ---- of a setting group block, in the order of its type

abbrev pub setting_components : List SettingComp
setting_components = NumOfSG ∷ ActSG ∷ EditSG ∷ CnfEdit ∷ LActTm ∷ []

abbrev pub setting_comp_name : SettingComp → List ℕ
setting_comp_name NumOfSG = codes "NumOfSG"
setting_comp_name ActSG = codes "ActSG"
setting_comp_name EditSG = codes "EditSG"
setting_comp_name CnfEdit = codes "CnfEdit"
setting_comp_name LActTm = codes "LActTm"

abbrev pub setting_comp_type : SettingComp → TypeOf
setting_comp_type NumOfSG = types.Uint 8
setting_comp_type ActSG = types.Uint 8
setting_comp_type EditSG = types.Uint 8
setting_comp_type CnfEdit = types.Bool
setting_comp_type LActTm = types.Time

-- the component of a name, if there is one
abbrev pub setting_comp_named : List ℕ → Option SettingComp
setting_comp_named name = find (λ k. bytes_eq name (setting_comp_name k)) setting_components
