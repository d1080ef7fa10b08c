-- why `transport::TransportIn::opened` answers as its contract says
use Rattle.std.proofs.Common.{List, ℕ, false, refl, ap}
use Rattle.tpkt_cotp.specs.declared.state.State.{State}
use Rattle.tpkt_cotp.proofs.StreamLaws.{stands_first}
use Rattle.tpkt_cotp.proofs.transport.TransportIn.opened.Goals as goal

pub returns : goal.returns
returns c = (refl, stands_first _ _ _ (ap (λ (x : List ℕ). let s : State = record { dialled = c.args.dialled; connected = false; tsdu = x } in s) c.new-2.ensures) c.new.ensures)
