-- what the loops of `playing::Playing::do_parts` keep
use Rattle.std.proofs.Common.{◌≤◌, ◌+◌, drop}
use Rattle.std.specs.List.{AllByRecursion}
use Rattle.record_steps.specs.Streams.{made}
use Rattle.record_session.specs.Plays.{IsReadyPart}
use Rattle.record_session.proofs.PlayLaws.{DoneSo}
use Rattle.record_session.proofs.playing.Playing.do_parts.Given as goal

abbrev pub invariant-loop-part : goal.invariant-loop-part
invariant-loop-part l = record {
  done : DoneSo l.fn.self l.self l.number l.shape l.heard (drop l.part-index l.heard) l.fn.out.items l.out.items;
  ready : AllByRecursion (IsReadyPart l.self.bay.config) (drop l.part-index l.heard);
  few : l.self.bay.steps + made (drop l.part-index l.heard) ≤ l.fn.self.bay.steps + made l.heard;
}
