-- why `laws::a_connection_is_read_back` answers as its contract says
use Rattle.session_pres.proofs.PpduLaws.{accept_back}
use Rattle.session_pres.proofs.RequestLaws.{connect_back}
use Rattle.session_pres.proofs.laws.a_connection_is_read_back.Goals as goal

pub returns : goal.returns
returns c = record { connect = connect_back; accept = accept_back }
