-- A step and its answer may go to another thread, since each of their parts may.
use denote.Param.Send.{IsSend, sendable}
use Rattle.std.proofs.Crossing.{crosses}
use Rattle.sv_base.proofs.octs.Octs.TheSendSync as octs
use Rattle.sv_base.proofs.numbers.ActorNo.TheSendSync as actor
use Rattle.sv_base.proofs.numbers.AssocNo.TheSendSync as association
use Rattle.sv_base.proofs.numbers.AttrId.TheSendSync as attr
use Rattle.sv_base.proofs.numbers.BlockNo.TheSendSync as block_number
use Rattle.sv_base.proofs.numbers.CtlNo.TheSendSync as control
use Rattle.sv_base.proofs.value.Values.TheLaws.TheKnot as data_values
use Rattle.sv_base.specs.contracts.value.Values as DataValues
use Rattle.sv_base.proofs.list.List.TheSendSync as list
use Rattle.bay_model.proofs.request.Scope.TheSendSync as scope
use Rattle.bay_model.proofs.request.Target.TheSendSync as target
use Rattle.bay_model.proofs.request.SetName.TheSendSync as set_name
use Rattle.sv_base.proofs.components.Comp.TheSendSync as component
use Rattle.bay_model.specs.contracts.request.Write as Write
use Rattle.bay_model.specs.contracts.request.Service as Service
use Rattle.bay_model.specs.contracts.request.Request as Request
use Rattle.bay_model.specs.contracts.step.Setting as Setting
use Rattle.bay_model.specs.contracts.step.Step as Step
use Rattle.bay_model.specs.contracts.control.Act as Act
use Rattle.bay_model.specs.contracts.answer.Answer as Answer
use Rattle.assoc_table.proofs.SendLaws.{output_field_send, value_field_send}

-- a step
data_values_send : IsSend DataValues.the_row
data_values_send = search (crosses, data_values.crosses, sendable) depth 60

write_send : IsSend Write.the_row
write_send = search (target.the_field_send, value_field_send, sendable) depth 60

service_field_send : IsSend Service.the_field.row
service_field_send = search (octs.the_send, scope.the_field_send, target.the_send, target.the_field_send, set_name.the_send, write_send, list.the_send, data_values_send, crosses, sendable) depth 60

request_field_send : IsSend Request.the_field.row
request_field_send = search (service_field_send, sendable) depth 60

setting_send : IsSend Setting.the_row
setting_send = search (attr.the_field_send, value_field_send, sendable) depth 60

pub step_field_send : IsSend Step.the_field.row
step_field_send = search (association.the_field_send, actor.the_field_send, request_field_send, block_number.the_field_send, component.the_field_send, value_field_send, setting_send, list.the_send, control.the_field_send, sendable) depth 60

pub step_send : IsSend Step.the_row
step_send = search (step_field_send, sendable)

-- an answer
act_send : IsSend Act.the_row
act_send = search (control.the_field_send, value_field_send, association.the_field_send, sendable) depth 60

pub answer_field_send : IsSend Answer.the_field.row
answer_field_send = search (act_send, list.the_send, output_field_send, crosses, sendable) depth 60

pub answer_send : IsSend Answer.the_row
answer_send = search (answer_field_send, sendable)
