-- why `spelled::what_is_sent_spells_what_is_read` answers as its contract says
use Rattle.osi_stack.proofs.SentLaws.{connect_sent, accept_sent, finish_sent, disconnect_sent}
use Rattle.osi_stack.proofs.spelled.what_is_sent_spells_what_is_read.Goals as goal

pub returns : goal.returns
returns c = record { connect = connect_sent; accept = accept_sent; finish = finish_sent; disconnect = disconnect_sent }
