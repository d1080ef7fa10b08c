-- Several threads may use one step, since each of its parts may be used so.
use denote.Param.Send.{IsSync, sendable}
use Rattle.std.proofs.Crossing.{crosses}
use Rattle.sv_base.proofs.octs.Octs.TheSendSync as octs
use Rattle.sv_base.proofs.numbers.ActorNo.TheSendSync as actor
use Rattle.sv_base.proofs.numbers.AssocNo.TheSendSync as association
use Rattle.sv_base.proofs.numbers.AttrId.TheSendSync as attr
use Rattle.sv_base.proofs.numbers.BlockNo.TheSendSync as block_number
use Rattle.sv_base.proofs.numbers.CtlNo.TheSendSync as control
use Rattle.sv_base.proofs.value.Values.TheLaws.TheKnot as data_values
use Rattle.sv_base.specs.contracts.value.Value as Value
use Rattle.sv_base.specs.contracts.value.Values as DataValues
use Rattle.sv_base.proofs.list.List.TheSendSync as list
use Rattle.bay_model.proofs.request.Scope.TheSendSync as scope
use Rattle.bay_model.proofs.request.Target.TheSendSync as target
use Rattle.bay_model.proofs.request.SetName.TheSendSync as set_name
use Rattle.sv_base.proofs.components.Comp.TheSendSync as component
use Rattle.bay_model.specs.contracts.request.Write as Write
use Rattle.bay_model.specs.contracts.request.Service as Service
use Rattle.bay_model.specs.contracts.request.Request as Request
use Rattle.bay_model.specs.contracts.step.Setting as Setting
use Rattle.bay_model.specs.contracts.step.Step as Step

value_field_sync : IsSync Value.the_field.row
value_field_sync = search (crosses, data_values.crosses, sendable) depth 60

data_values_sync : IsSync DataValues.the_row
data_values_sync = search (crosses, data_values.crosses, sendable) depth 60

write_sync : IsSync Write.the_row
write_sync = search (target.the_field_sync, value_field_sync, sendable) depth 60

service_field_sync : IsSync Service.the_field.row
service_field_sync = search (octs.the_sync, scope.the_field_sync, target.the_sync, target.the_field_sync, set_name.the_sync, write_sync, list.the_sync, data_values_sync, crosses, sendable) depth 60

request_field_sync : IsSync Request.the_field.row
request_field_sync = search (service_field_sync, sendable) depth 60

setting_sync : IsSync Setting.the_row
setting_sync = search (attr.the_field_sync, value_field_sync, sendable) depth 60

pub step_field_sync : IsSync Step.the_field.row
step_field_sync = search (association.the_field_sync, actor.the_field_sync, request_field_sync, block_number.the_field_sync, component.the_field_sync, value_field_sync, setting_sync, list.the_sync, control.the_field_sync, sendable) depth 60

pub step_sync : IsSync Step.the_row
step_sync = search (step_field_sync, sendable)
