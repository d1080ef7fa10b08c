-- why `writing::put_results` answers as its contract says
use Rattle.std.proofs.Common.{arith}
use Rattle.session_pres.proofs.WritingLaws.{results_more}
use Rattle.session_pres.proofs.writing.put_results.Goals as goal

pub loop-place-preserved : goal.loop-place-preserved
loop-place-preserved c = results_more _ _ _ _ _ _ _ _ (omega arith) c.loop-place.invariant c.get.ensures c.unwrap_or-accepted.ensures c.result_of.ensures c.in_ok-extend_from_slice.ensures.items
