-- why `called::take_first` answers as its contract says
use Rattle.std.proofs.Common.{arith}
use Rattle.session_pres.proofs.AnswerLaws.{connect_within}
use Rattle.osi_stack.proofs.called.take_first.Goals as goal

pub request-requires-clause-few : goal.request-requires-clause-few
request-requires-clause-few c = omega (arith, connect_within c.args.octets.now c.in-Connect.user.now (rw c.in-Connect.is at c.in_ok-user.ensures.plain), c.requires.few)
