-- why `laws::initiates_are_read_back` answers as its contract says
use Rattle.mms_initiate.proofs.InitiateOctetsLaws as laws
use Rattle.mms_initiate.proofs.InitiateLaws.{one_initiate}
use Rattle.mms_initiate.proofs.laws.initiates_are_read_back.Goals as goal

pub returns : goal.returns
returns c = record {
  answer = λ asked least. laws.answer_spelled asked;
  answer_again = laws.answer_again;
  request = λ size least most. laws.request_spelled size most;
  request_again = laws.request_again;
  one = one_initiate;
}
