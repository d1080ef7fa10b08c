-- why `laws::writes_are_answered` answers as its contract says
use Rattle.brcb_state.proofs.AnswerLaws.{answered}
use Rattle.brcb_state.proofs.laws.writes_are_answered.Goals as goal

pub returns : goal.returns
returns c = answered
