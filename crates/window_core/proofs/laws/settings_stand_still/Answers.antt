-- why `laws::settings_stand_still` answers as its contract says
use Rattle.window_core.proofs.StillLaws.{points-still}
use Rattle.window_core.proofs.laws.settings_stand_still.Goals as goal

pub returns : goal.returns
returns c = λ c' b ps before opened. points-still c' b ps before opened
