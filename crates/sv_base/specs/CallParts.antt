-- The parts of a command of a control, SBOw, Oper or Cancel, with their names and types (IEC 61850-7-2, control service
-- parameters; IEC 61850-8-1, their names and MMS types).
use Rattle.std.specs.Prelude.{ℕ, List, [], ◌∷◌, ◌++◌, codes}
use Rattle.sv_base.specs.declared.call_parts.CallPart.{CallPart}
use Rattle.sv_base.specs.declared.call_parts.CallPart.TheVariants.{CtlVal, OrCat, OrIdent, CtlNum, T, Test, Check}
use Rattle.sv_base.specs.declared.types.TypeOf.{TypeOf}
use Rattle.sv_base.specs.declared.types.TypeOf.TheVariants as types

-- those of Cancel, in the order of its type; SBOw and Oper have Check after them
abbrev pub cancel_parts : List CallPart
cancel_parts = CtlVal ∷ OrCat ∷ OrIdent ∷ CtlNum ∷ T ∷ Test ∷ []

abbrev pub command_parts : List CallPart
command_parts = cancel_parts ++ Check ∷ []

-- the names down to a part, joined by `$`
abbrev pub part_name : CallPart → List ℕ
part_name CtlVal = codes "ctlVal"
part_name OrCat = codes "origin$orCat"
part_name OrIdent = codes "origin$orIdent"
part_name CtlNum = codes "ctlNum"
part_name T = codes "T"
part_name Test = codes "Test"
part_name Check = codes "Check"

-- its type, where the control's value is of this one
abbrev pub part_type : TypeOf → CallPart → TypeOf
part_type value CtlVal = value
part_type value OrCat = types.Int 8
part_type value OrIdent = types.Octets 64
part_type value CtlNum = types.Uint 8
part_type value T = types.Time
part_type value Test = types.Bool
part_type value Check = types.Bits 2
