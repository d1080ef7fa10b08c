-- why `replay::Replay::new` answers as its contract says
use Rattle.std.proofs.Common.{arith}
use Rattle.record_session.proofs.Judging.{run-none}
use Rattle.record_session.proofs.replay.Replay.new.Goals as goal

pub returns-clause-run : goal.returns-clause-run
returns-clause-run c = λ left taken. run-none c.new.result left taken c.new.ensures.fed

pub returns-clause-ready : goal.returns-clause-ready
returns-clause-ready c = record {
  part = c.new.ensures.part;
  few = omega (arith, c.new.ensures.steps);
  early = c.new.ensures.early;
  lines = omega (arith, c.new.ensures.lines);
  within = omega arith;
  empty = c.new-2.ensures.items;
}
