-- A bay may go to another thread, since each of its parts may.
use denote.Param.Send.{IsSend, sendable}
use Rattle.std.proofs.Crossing.{crosses}
use Rattle.sv_base.proofs.moment.Moment.TheSendSync as moment
use Rattle.bay_model.proofs.report.Report.TheSendSync as report
use Rattle.bay_rooms.proofs.fixed.Fixed.TheSendSync as fixed
use Rattle.object_model.proofs.SendLaws.{model_send}
use Rattle.assoc_table.proofs.SendLaws.{associations_send}
use Rattle.data_sets.proofs.book.SetBook.TheSendSync as book
use Rattle.entry_ring.proofs.ring.Ring.TheSendSync as ring
use Rattle.brcb_state.proofs.block.Block.TheSendSync as block
use Rattle.bay_values.proofs.values.Values.TheSendSync as values
use Rattle.setting_groups.proofs.groups.Groups.TheSendSync as groups
use Rattle.control_core.proofs.controls.Controls.TheSendSync as controls
use Rattle.bay_queues.specs.contracts.queues.Queues as Queues
use Rattle.report_block.specs.contracts.block.ReportBlock as ReportBlock
use Rattle.window_core.proofs.window.Window.TheSendSync as window
use Rattle.block_reports.proofs.member_rooms.Rooms.TheSendSync as rooms
use Rattle.block_watch.proofs.dues.Dues.TheSendSync as dues
use Rattle.bay_core.specs.contracts.bay.Bay as Bay

queues_send : IsSend Queues.the_row
queues_send = search (associations_send, controls.the_send, crosses, sendable) depth 60

part_send : IsSend ReportBlock.the_row
part_send = search (ring.the_send, block.the_field_send, window.the_send, moment.the_send, crosses, sendable) depth 60

pub bay_send : IsSend Bay.the_row
bay_send = search (model_send, moment.the_send, values.the_send, groups.the_send, book.the_send, part_send, queues_send, fixed.the_send, report.the_send, dues.the_send, rooms.the_send, crosses, sendable) depth 60 fits 20000
