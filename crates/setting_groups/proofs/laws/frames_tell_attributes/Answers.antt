-- why `laws::frames_tell_attributes` answers as its contract says
use Rattle.setting_groups.proofs.FirstLaws.{complete, is-twin}
use Rattle.setting_groups.proofs.laws.frames_tell_attributes.Goals as goal

pub returns-clause-complete : goal.returns-clause-complete
returns-clause-complete c = λ m s framed. complete m s framed

pub returns-clause-twins : goal.returns-clause-twins
returns-clause-twins c = λ m s k framed below. is-twin m s framed k below
