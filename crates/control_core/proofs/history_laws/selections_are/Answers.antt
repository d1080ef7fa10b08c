-- why `history_laws::selections_are` answers as its contract says
use Rattle.control_core.proofs.SelectedLaws.{selections_are}
use Rattle.control_core.proofs.history_laws.selections_are.Goals as goal

pub returns : goal.returns
returns c = λ m h k a selectable. selections_are m k selectable h a
