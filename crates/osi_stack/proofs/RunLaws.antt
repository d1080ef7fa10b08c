-- What a stream comes to when it is run is what its relation says, and nothing else.
use Rattle.std.proofs.Common.{◌≡◌, ℕ, zero, suc, ◌<◌, ◌≤◌, Bool, true, false, List, [], ◌∷◌, length, Option, Some, None, Result, Ok, Err}
use Rattle.std.proofs.Common.{inl, inr, refl, ap, arith}
use Rattle.std.specs.Prelude.{if◌then◌else◌}
use Rattle.std.specs.Option.{option_to_list}
use Rattle.std.proofs.lemmas.List.{length-append}
use Rattle.ber_grammar.specs.Octets.{IsBytes}
use Rattle.tpkt_cotp.specs.declared.fault.TpFault.{TpFault}
use Rattle.tpkt_cotp.specs.Packet.{packet, packet_at}
use Rattle.tpkt_cotp.proofs.PacketLaws.{packet_whole, packet_partial, packet_bad}
use Rattle.tpkt_cotp.proofs.StreamLaws.{after_fits, partial_none}
use Rattle.osi_stack.specs.declared.cause.Cause.{Cause}
use Rattle.osi_stack.specs.declared.events.Event.{Event}
use Rattle.osi_stack.specs.Causes.{of_transport}
use Rattle.osi_stack.specs.Stream.{Stand, has_ended, step_at, Takes}
use Rattle.osi_stack.specs.Running.{Came, left_at, after_step, after_packet, run_within, run}
use Rattle.osi_stack.proofs.ConnectionLaws.{Takes-both, Takes-none, Takes-one}
use Rattle.osi_stack.proofs.StreamLaws.{Ends, one_end}

-- ---- what is run is so

abbrev pub IsCame : Stand → List ℕ → Came → Type 0
IsCame s octets x = Takes s octets x.events x.stand x.rest × Ends x.stand x.rest x.cause

abbrev IsRight : (Stand → List ℕ → Came) → List ℕ → Type 0
IsRight go octets = (mid : Stand) (after : List ℕ) → length after < length octets → IsBytes after → IsCame mid after (go mid after)

here : (s : Stand) (octets : List ℕ) (e : Option Cause) → Ends s octets e → IsCame s octets (left_at s octets e)
here s octets e ends = (Takes-none s s octets octets refl refl, ends)

by_step : (go : Stand → List ℕ → Came) (s : Stand) (octets tpdu after : List ℕ) (r : Result (Stand × Option Event) Cause) → step_at s tpdu ≡ r
    → IsBytes octets → has_ended s.phase ≡ false → packet_at octets ≡ Ok (Some (tpdu, after)) → IsRight go octets
    → IsCame s octets (after_step go s octets after r)
by_step go s octets tpdu after (Ok (mid, e)) step fits on one right =
    let w = packet_whole octets tpdu after fits one in
    let came = right mid after (omega (arith, ap (λ (x : List ℕ). length x) w.1, length-append (packet tpdu) after)) (after_fits octets tpdu after fits one) in
    let first = Takes-one s mid octets tpdu after e on w.0 w.1 step in
    (Takes-both s mid (go mid after).stand octets after (go mid after).rest (option_to_list e) (go mid after).events first came.0, came.1)
by_step go s octets tpdu after (Err c) step fits on one right =
    let w = packet_whole octets tpdu after fits one in
    here s octets (Some c) (on, inr (tpdu, after, w.0, w.1, step))

by_packet : (go : Stand → List ℕ → Came) (s : Stand) (octets : List ℕ) (r : Result (Option (List ℕ × List ℕ)) TpFault) → packet_at octets ≡ r
    → IsBytes octets → has_ended s.phase ≡ false → IsRight go octets → IsCame s octets (after_packet go s octets r)
by_packet go s octets (Ok None) one fits on right = here s octets None (inl (on, packet_partial octets fits one))
by_packet go s octets (Ok (Some (tpdu, after))) one fits on right = by_step go s octets tpdu after (step_at s tpdu) refl fits on one right
by_packet go s octets (Err f) one fits on right = here s octets (Some (of_transport f)) (on, inl (f, packet_bad octets f fits one, refl))

by_phase : (go : Stand → List ℕ → Came) (s : Stand) (octets : List ℕ) (b : Bool) → has_ended s.phase ≡ b → IsBytes octets → IsRight go octets
    → IsCame s octets (if b then left_at s octets None else after_packet go s octets (packet_at octets))
by_phase go s octets true over fits right = here s octets None (inr over)
by_phase go s octets false on fits right = by_packet go s octets (packet_at octets) refl fits on right

nothing_left : (s : Stand) (b : Bool) → has_ended s.phase ≡ b → Ends s [] None
nothing_left s true over = inr over
nothing_left s false on = inl (on, partial_none)

came_within : (n : ℕ) (s : Stand) (octets : List ℕ) → length octets ≤ n → IsBytes octets → IsCame s octets (run_within n s octets)
came_within zero s [] few fits = here s [] None (nothing_left s (has_ended s.phase) refl)
came_within zero s (x ∷ octets) few fits = absurd (omega (arith, few))
came_within (suc n) s octets few fits =
    let right : IsRight (run_within n) octets = λ mid after shorter bytes. came_within n mid after (omega (arith, few, shorter)) bytes in
    by_phase (run_within n) s octets (has_ended s.phase) refl fits right

pub came : (s : Stand) (octets : List ℕ) → IsBytes octets → IsCame s octets (run s octets)
unfolding run
came s octets fits = came_within (length octets) s octets (omega arith) fits

-- ---- and what is so is run

came_is : (x : Came) (es : List Event) (t : Stand) (rest : List ℕ) (e : Option Cause) → es ≡ x.events → t ≡ x.stand → rest ≡ x.rest → e ≡ x.cause
    → x ≡ record { events = es; stand = t; rest = rest; cause = e }
came_is x es t rest e a b c d = rw (a, b, c, d) refl

pub run_is : (s t : Stand) (octets rest : List ℕ) (es : List Event) (e : Option Cause) → IsBytes octets → Takes s octets es t rest → Ends t rest e
    → run s octets ≡ record { events = es; stand = t; rest = rest; cause = e }
run_is s t octets rest es e fits takes ends =
    let x : Came = run s octets in
    let k = came s octets fits in
    let p = takes in
    let q = k.0 in
    let one = one_end s t x.stand octets rest x.rest p.tpdus q.tpdus es x.events e x.cause fits ends k.1 p.whole p.each p.runs q.whole q.each q.runs in
    came_is x es t rest e one.0 one.1 one.2 one.3
