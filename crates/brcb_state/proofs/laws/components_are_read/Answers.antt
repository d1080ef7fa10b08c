-- why `laws::components_are_read` answers as its contract says
use Rattle.brcb_state.proofs.ReadLaws.{reads}
use Rattle.brcb_state.proofs.laws.components_are_read.Goals as goal

pub returns : goal.returns
returns c = reads
