-- why `replies_contents::results_len` answers as its contract says
use Rattle.std.proofs.Common.{arith}
use Rattle.bay_answers.proofs.RepliesContentsLaws.{length_of_one_more}
use Rattle.bay_answers.proofs.replies_contents.results_len.Goals as goal

pub loop-one-preserved : goal.loop-one-preserved
loop-one-preserved c = omega (arith, length_of_one_more c.args.results.now c.loop-one.one-index c.one-item.result (omega arith) c.one-item.is)
