-- Worked streams (RFC 1006, ISO 8073): a slip in how a stream is run is refused here.
use Rattle.std.proofs.Common.{◌≡◌, ℕ, true, false, List, [], ◌∷◌, ◌++◌, Some, None, refl}
use Rattle.tpkt_cotp.specs.declared.state.State.{State}
use Rattle.tpkt_cotp.specs.Packet.{packet_at}
use Rattle.tpkt_cotp.specs.Parameters.{parameters_of}
use Rattle.tpkt_cotp.specs.Tpdu.{tpdu_at}
use Rattle.tpkt_cotp.specs.Written.{confirm_of}
use Rattle.osi_stack.specs.declared.events.Event.TheVariants.{Answer, Aborted}
use Rattle.osi_stack.specs.declared.fault.StackFault.TheVariants.{Refused}
use Rattle.osi_stack.specs.declared.phase.Phase.{Phase}
use Rattle.osi_stack.specs.declared.phase.Phase.TheVariants.{Called, Ended}
use Rattle.osi_stack.specs.Machine.{connect_at, tsdu_at}
use Rattle.osi_stack.specs.Running.{run, refusal}
use Rattle.osi_stack.specs.Stream.{Stand, called, step_at}

-- a CR with the TPDU size 2 ^ 13 and both selectors, and the CC that answers it
abbrev cr : List ℕ
cr = 3 ∷ 0 ∷ 0 ∷ 22 ∷ 17 ∷ 0xe0 ∷ 0 ∷ 0 ∷ 0 ∷ 1 ∷ 0 ∷ 0xc0 ∷ 1 ∷ 13 ∷ 0xc2 ∷ 2 ∷ 0 ∷ 1 ∷ 0xc1 ∷ 2 ∷ 0 ∷ 1 ∷ []

abbrev cc_for_it : List ℕ
cc_for_it = 3 ∷ 0 ∷ 0 ∷ 22 ∷ 17 ∷ 0xd0 ∷ 0 ∷ 1 ∷ 0 ∷ 1 ∷ 0 ∷ 0xc0 ∷ 1 ∷ 13 ∷ 0xc2 ∷ 2 ∷ 0 ∷ 1 ∷ 0xc1 ∷ 2 ∷ 0 ∷ 1 ∷ []

-- a DR
abbrev dr : List ℕ
dr = 3 ∷ 0 ∷ 0 ∷ 11 ∷ 6 ∷ 0x80 ∷ 0 ∷ 1 ∷ 0 ∷ 1 ∷ 0 ∷ []

abbrev connected : State
connected = record { dialled = false; connected = true; tsdu = [] }

abbrev with_phase : Phase → Stand
with_phase phase = record { transport = connected; phase = phase }

-- the CR is answered, and the beginning of a TPKT is left
answered : run called (cr ++ 3 ∷ 0 ∷ []) ≡ record { events = Answer cc_for_it ∷ []; stand = with_phase (Called 13); rest = 3 ∷ 0 ∷ []; cause = None }
unfolding run packet_at parameters_of tpdu_at confirm_of connect_at tsdu_at step_at
answered = refl

-- after it stands no TPKT: the answer was given, and the cause says the 22 octets before
refused : ((run called (cr ++ 4 ∷ 0 ∷ [])).events ≡ Answer cc_for_it ∷ [])
    × (refusal (cr ++ 4 ∷ 0 ∷ []) (run called (cr ++ 4 ∷ 0 ∷ [])) ≡ Some (Refused 1 1 22))
unfolding run packet_at parameters_of tpdu_at confirm_of connect_at tsdu_at step_at
refused = (refl, refl)

-- a DR ends the association, and what follows it is disregarded
ended : run called (cr ++ (dr ++ 4 ∷ [])) ≡ record { events = Answer cc_for_it ∷ Aborted ∷ []; stand = with_phase Ended; rest = 4 ∷ []; cause = None }
unfolding run packet_at parameters_of tpdu_at confirm_of connect_at tsdu_at step_at
ended = refl
