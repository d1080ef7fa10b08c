-- why `laws::elements_are_read_as_octets_are` answers as its contract says
use Rattle.mms_data.proofs.GrammarLaws.{read_is_data}
use Rattle.mms_data.proofs.laws.elements_are_read_as_octets_are.Goals as goal

pub returns : goal.returns
returns c = read_is_data
