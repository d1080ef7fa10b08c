-- why `laws::data_is_minimal` answers as its contract says
use Rattle.mms_data.proofs.ShortestLaws.{shortest}
use Rattle.mms_data.proofs.laws.data_is_minimal.Goals as goal

pub returns : goal.returns
returns c = shortest
