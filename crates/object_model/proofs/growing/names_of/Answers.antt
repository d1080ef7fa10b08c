-- why `growing::names_of` answers as its contract says
use Rattle.std.proofs.Common.{subst, sym}
use Rattle.object_model.specs.Runs.{IsRun}
use Rattle.object_model.proofs.RunLaws.{run-at, names-more}
use Rattle.object_model.proofs.growing.names_of.Goals as goal

pub push_run-requires : goal.push_run-requires
push_run-requires c = subst IsRun (sym c.run-item.is) (run-at c.args.runs.now c.loop-run.run-index c.run-item.result c.loop-run-test.true c.requires)

pub loop-run-preserved : goal.loop-run-preserved
loop-run-preserved c = names-more c.args.runs.now c.args.domain.now c.loop-run.run-index c.run-item.result c.loop-run.cuts.items _ c.loop-run-test.true c.run-item.is c.loop-run.invariant c.in_ok-push_run.ensures
