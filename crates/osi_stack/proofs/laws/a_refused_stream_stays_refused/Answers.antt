-- why `laws::a_refused_stream_stays_refused` answers as its contract says
use Rattle.osi_stack.proofs.AnsweredLaws.{upper_never, upper_same, caller_never, caller_same}
use Rattle.osi_stack.proofs.laws.a_refused_stream_stays_refused.Goals as goal

pub returns : goal.returns
returns c = record { upper_never = upper_never; upper_same = upper_same; caller_never = caller_never; caller_same = caller_same }
