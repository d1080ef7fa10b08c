-- A table of associations may go to another thread, since each of its parts may.
use denote.Param.Send.{IsSend, sendable}
use Rattle.std.proofs.Crossing.{crosses}
use Rattle.sv_base.proofs.list.List.TheSendSync as list
use Rattle.sv_base.proofs.octs.Octs.TheSendSync as octs
use Rattle.sv_base.proofs.value.Values.TheLaws.TheKnot as values
use Rattle.sv_base.proofs.numbers.CtlNo.TheSendSync as control
use Rattle.sv_base.proofs.numbers.NodeId.TheSendSync as node
use Rattle.sv_base.specs.contracts.value.Value as Value
use Rattle.bay_model.proofs.control.ApplError.TheSendSync as error
use Rattle.bay_model.proofs.reply.Asked.TheSendSync as asked
use Rattle.bay_model.proofs.report.Report.TheSendSync as report
use Rattle.bay_model.specs.contracts.reply.Reply as Reply
use Rattle.bay_model.specs.contracts.control.Termination as Termination
use Rattle.bay_model.specs.contracts.answer.Output as Output
use Rattle.circular_buffer.proofs.heap.HeapCircularBuffer.TheSendSync as buffer
use Rattle.sv_base.proofs.numbers.ActorNo.TheSendSync as actor
use Rattle.assoc_table.specs.contracts.waiting.Ends as Ends
use Rattle.assoc_table.specs.contracts.waiting.Waiting as Waiting
use Rattle.assoc_table.specs.contracts.seat.Seat as Seat
use Rattle.assoc_table.specs.contracts.table.Assocs as Assocs

pub value_field_send : IsSend Value.the_field.row
value_field_send = search (crosses, values.crosses, sendable) depth 60

value_send : IsSend Value.the_row
value_send = search (value_field_send, sendable)

reply_field_send : IsSend Reply.the_field.row
reply_field_send = search (value_send, octs.the_send, list.the_send, node.the_send, node.the_field_send, asked.the_field_send, sendable) depth 60

termination_field_send : IsSend Termination.the_field.row
termination_field_send = search (value_field_send, control.the_field_send, error.the_field_send, crosses, sendable) depth 60

pub output_field_send : IsSend Output.the_field.row
output_field_send = search (reply_field_send, termination_field_send, report.the_field_send, error.the_send, list.the_send, sendable) depth 60

waiting_send : IsSend Waiting.the_row
waiting_send = search (output_field_send, control.the_field_send, sendable) depth 60

ends_send : IsSend Ends.the_row
ends_send = search (actor.the_field_send, sendable) depth 60

seat_send : IsSend Seat.the_row
seat_send = search (waiting_send, ends_send, buffer.the_send, crosses, sendable) depth 60

pub associations_send : IsSend Assocs.the_row
associations_send = search (seat_send, crosses, sendable) depth 60
