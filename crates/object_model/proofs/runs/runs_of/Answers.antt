-- why `runs::runs_of` answers as its contract says
use Rattle.std.proofs.Common.{◌+◌, refl, sym, ap, subst, arith}
use Rattle.bay_model.specs.NamedLines.{Line}
use Rattle.object_model.specs.Runs.{AreRuns}
use Rattle.object_model.proofs.RunLaws.{lines-more, runs-more, is-run}
use Rattle.object_model.proofs.runs.runs_of.Goals as goal

pub loop-rest-preserved : goal.loop-rest-preserved
loop-rest-preserved c = record {
  lines = lines-more c.loop-rest.runs.items _ _ c.args.lines.now c.loop-rest.rest.now _ (1 + c.run_len-len.result) c.in_ok-push.ensures.items refl refl c.loop-rest.invariant.lines;
  runs = subst AreRuns (sym c.in_ok-push.ensures.items) (runs-more c.loop-rest.runs.items _ c.loop-rest.invariant.runs
      (is-run c.loop-rest.rest.now _ c.first-item.result c.first.inside.domain.now c.run_len-len.result (omega (arith, c.in-len1-up.len_at_least)) c.first-item.is (sym (ap (λ (l : Line). l.domain) c.first.view_is)) refl c.run_len-len.ensures.same));
}
