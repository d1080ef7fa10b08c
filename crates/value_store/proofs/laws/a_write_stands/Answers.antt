-- why `laws::a_write_stands` answers as its contract says
use Rattle.value_store.proofs.StandLaws.{write_stands}
use Rattle.value_store.proofs.laws.a_write_stands.Goals as goal

pub returns : goal.returns
returns c = write_stands
