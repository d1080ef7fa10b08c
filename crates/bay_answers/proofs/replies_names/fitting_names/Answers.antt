-- why `replies_names::fitting_names` answers as its contract says
use Rattle.std.proofs.Common.{◌≡◌, ◌+◌, ◌≤◌, length, take, sym, ◌∙◌, arith}
use Rattle.bay_answers.specs.RepliesContents.{identifiers}
use Rattle.bay_answers.proofs.RepliesNamesLaws.{IsReached, next_one, last_one}
use Rattle.bay_answers.proofs.replies_names.fitting_names.Goals as goal

pub returns-in-None-clause-value : goal.returns-in-None-clause-value
returns-in-None-clause-value c =
    last_one c.args.size c.args.invoke c.loop-count.count c.loop-count.sum c.args.names.now c.index-names-count.result c.as_slice.result.now (omega (arith, c.loop-count-test.true)) c.index-names-count.is c.as_slice.ensures
    c.loop-count.invariant.sum c.loop-count.invariant.reached (sym c.with_name.ensures ∙ c.in-None.is)

pub loop-count-preserved : goal.loop-count-preserved
loop-count-preserved c =
    let n : (c.in-Some.more ≡ length (identifiers (take (c.loop-count.count + 1) c.args.names.now))) × (c.in-Some.more ≤ c.args.size) × IsReached c.args.size c.args.invoke (c.loop-count.count + 1) c.args.names.now =
    next_one c.args.size c.args.invoke c.loop-count.count c.loop-count.sum c.in-Some.more c.args.names.now c.index-names-count.result c.as_slice.result.now (omega (arith, c.loop-count-test.true)) c.index-names-count.is c.as_slice.ensures
    c.loop-count.invariant.sum c.loop-count.invariant.reached (sym c.with_name.ensures ∙ c.in-Some.is) in record {
      most = omega (arith, c.loop-count-test.true);
      small = n.1;
      sum = n.0;
      reached = n.2;
    }
