-- What a control has under CO: the nodes by which it is selected, operated and cancelled, with their names (IEC 61850-7-2, control
-- class model; IEC 61850-8-1, their names).
use Rattle.std.specs.Prelude.{ℕ, List, codes}
use Rattle.sv_base.specs.declared.ctl_services.Call.{Call}
use Rattle.sv_base.specs.declared.ctl_services.Call.TheVariants as calls
use Rattle.sv_base.specs.declared.ctl_services.CtlService.{CtlService}
use Rattle.sv_base.specs.declared.ctl_services.CtlService.TheVariants.{Sbo, SboWithValue, Oper, Cancel}

abbrev pub service_name : CtlService → List ℕ
service_name Sbo = codes "SBO"
service_name SboWithValue = codes "SBOw"
service_name Oper = codes "Oper"
service_name Cancel = codes "Cancel"

-- what a service that carries a value writes
abbrev pub service_of : Call → CtlService
service_of calls.Select = SboWithValue
service_of calls.Operate = Oper
service_of calls.Cancel = Cancel
