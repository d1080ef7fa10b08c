-- why `laws::a_stream_gives_one_list` answers as its contract says
use Rattle.osi_stack.proofs.StreamLaws.{one_stream, one_refusal, never_both}
use Rattle.osi_stack.proofs.AnsweredLaws.{answered, still_refused}
use Rattle.osi_stack.proofs.laws.a_stream_gives_one_list.Goals as goal

pub returns : goal.returns
returns c = record { once = one_stream; refused = one_refusal; never = never_both; answered = answered; still = still_refused }
