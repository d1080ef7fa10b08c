-- The CF attributes of a control, with their names and types (IEC 61850-7-2, control class model; IEC 61850-7-3, their types;
-- IEC 61850-8-1, their names).
use Rattle.std.specs.Prelude.{ℕ, List, codes}
use Rattle.sv_base.specs.declared.parameters.CtlParameter.{CtlParameter}
use Rattle.sv_base.specs.declared.parameters.CtlParameter.TheVariants.{CtlModel, SboTimeout, SboClass}
use Rattle.sv_base.specs.declared.types.TypeOf.{TypeOf}
use Rattle.sv_base.specs.declared.types.TypeOf.TheVariants as types

abbrev pub parameter_name : CtlParameter → List ℕ
parameter_name CtlModel = codes "ctlModel"
parameter_name SboTimeout = codes "sboTimeout"
parameter_name SboClass = codes "sboClass"

abbrev pub parameter_kind : CtlParameter → TypeOf
parameter_kind CtlModel = types.Int 8
parameter_kind SboTimeout = types.Uint 32
parameter_kind SboClass = types.Int 8
