-- why `laws::a_release_is_read_back` answers as its contract says
use Rattle.session_pres.specs.declared.codes.TheConstants.{FINISH, DISCONNECT}
use Rattle.session_pres.proofs.ReadBackLaws.{release_back}
use Rattle.session_pres.proofs.laws.a_release_is_read_back.Goals as goal

pub returns : goal.returns
returns c = record { finish = release_back FINISH; disconnect = release_back DISCONNECT }
