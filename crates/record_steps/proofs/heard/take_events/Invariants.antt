-- what the loops of `heard::take_events` keep
use Rattle.std.proofs.Common.{drop}
use Rattle.record_steps.proofs.StreamLaws.{Going}
use Rattle.record_steps.proofs.heard.take_events.Given as goal

abbrev pub invariant-loop-event : goal.invariant-loop-event
invariant-loop-event l = Going l.model l.a l.fault l.events l.fn.before (drop l.event-index l.events) l.wired l.fn.heard.items l.heard.items
