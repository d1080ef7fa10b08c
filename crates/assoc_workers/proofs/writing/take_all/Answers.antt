-- why `writing::take_all` answers as its contract says
use Rattle.std.proofs.Common.{arith}
use Rattle.assoc_workers.proofs.WriteLaws.{so_far_none, so_far_written, so_far_empty, takes_closed, takes_ended}
use Rattle.assoc_workers.proofs.writing.take_all.Goals as goal

pub loop-init : goal.loop-init
loop-init g c = (so_far_none _ _ _ _ _ _ _, c.requires.pass, omega arith)

pub loop-preserved-in-Ok-Written : goal.loop-preserved-in-Ok-Written
loop-preserved-in-Ok-Written g c = (
  so_far_written _ _ _ _ _ _ _ _ _ _ _ _ c.in-Ok-Written.field-0-is c.loop.invariant.0 c.in-Ok-Written.ensures.takes,
  c.in-Ok-Written.ensures.of,
  omega (arith, c.loop.invariant.2, c.in-Ok-Written.ensures.later),
)

pub loop-preserved : goal.loop-preserved
loop-preserved g c = (
  so_far_empty _ _ _ _ _ _ _ _ _ _ _ _ c.in-Ok-Empty.field-0-is c.loop.invariant.0 c.in-Ok-Empty.ensures.takes,
  c.in-Ok-Empty.ensures.of,
  omega (arith, c.loop.invariant.2, c.in-Ok-Empty.ensures.later),
)

pub returns-in-Ok-Closed-clause-takes : goal.returns-in-Ok-Closed-clause-takes
returns-in-Ok-Closed-clause-takes g c = takes_closed _ _ _ _ _ _ _ _ _ _ _ _ c.in-Ok-Closed.field-0-is c.loop.invariant.0 c.in-Ok-Closed.ensures.takes

pub returns-in-Err-clause-takes : goal.returns-in-Err-clause-takes
returns-in-Err-clause-takes g c = takes_ended _ _ _ _ _ _ _ _ _ _ _ _ c.loop.invariant.0 c.in-Err.ensures.takes
