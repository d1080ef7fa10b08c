-- why `laws::settings_stand` answers as its contract says
use Rattle.value_store.proofs.StandLaws.{settings_stand}
use Rattle.value_store.proofs.laws.settings_stand.Goals as goal

pub returns : goal.returns
returns c = settings_stand
