-- why `laws::data_are_read_back` answers as its contract says
use Rattle.session_pres.proofs.ReadBackLaws.{data_back}
use Rattle.session_pres.proofs.laws.data_are_read_back.Goals as goal

pub returns : goal.returns
returns c = data_back
