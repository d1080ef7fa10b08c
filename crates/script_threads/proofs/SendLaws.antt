-- What is given to an actor's thread may go there, and what it gives back too.
use denote.RattleType.{RattleType}
use denote.Param.Send.{IsSend, sendable}
use Rattle.std.proofs.Crossing.{crosses}
use Rattle.sv_base.proofs.moment.Moment.TheSendSync as moment
use Rattle.sv_base.proofs.numbers.AssocNo.TheSendSync as association
use Rattle.bay_histories.specs.declared.machine.StateMachine.{Ghosts}
use Rattle.bay_histories.specs.contracts.fault.StepFault as StepFault
use Rattle.bay_histories.proofs.SendLaws.{step_field_send, answer_field_send}
use Rattle.history_lock.proofs.SendLaws.{pass_send}
use Rattle.actor_scripts.specs.contracts.script.TimedStep as TimedStep
use Rattle.actor_scripts.specs.contracts.script.Script as Script
use Rattle.actor_scripts.specs.contracts.part.Reply as Reply
use Rattle.actor_scripts.specs.contracts.part.Part as Part
use Rattle.script_threads.specs.contracts.job.Played as Played

timed_field_send : IsSend TimedStep.the_field.row
timed_field_send = search (moment.the_send, step_field_send, sendable) depth 60

pub script_field_send : IsSend Script.the_field.row
script_field_send = search (timed_field_send, crosses, sendable) depth 60

pub reply_field_send : IsSend Reply.the_field.row
reply_field_send = search (answer_field_send, sendable) depth 60

fault_field_send : IsSend StepFault.the_field.row
fault_field_send = search (association.the_field_send, sendable) depth 60

part_field_send : IsSend Part.the_field.row
part_field_send = search (reply_field_send, fault_field_send, crosses, sendable) depth 60

pub played_send : (M : RattleType) (ghosts : Ghosts M.Denot) → IsSend M → IsSend (Played.the_row M ghosts)
played_send M ghosts s = search (pass_send, part_field_send, sendable) depth 60
