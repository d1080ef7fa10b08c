-- why `pdus::push_framed` ends
use Rattle.std.proofs.Common.{length}
use Rattle.answer_text.proofs.pdus.+push_framed.Given as goal

abbrev pub decreases-push_framed : goal.decreases-push_framed
decreases-push_framed l = length l.pdus.now
