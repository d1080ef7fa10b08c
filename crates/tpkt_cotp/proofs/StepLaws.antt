-- One TPKT at a time, and all those of a piece.
use Rattle.std.proofs.Common.{◌≡◌, ◌≢◌, ℕ, Bool, ◌⊎◌, List, [], ◌++◌, length, Option, Some, None, Ok, Err, refl, sym, ap, subst, ◌∙◌, inl, inr, append_assoc, arith}
use Rattle.std.specs.Option.{option_to_list}
use Rattle.std.proofs.lemmas.List.{append-nil}
use Rattle.tpkt_cotp.specs.declared.fault.TpFault.{TpFault}
use Rattle.tpkt_cotp.specs.declared.fault.TpFault.TheVariants as faults
use Rattle.tpkt_cotp.specs.declared.state.State.{State}
use Rattle.tpkt_cotp.specs.declared.tsdus.Tsdu.{Tsdu}
use Rattle.tpkt_cotp.specs.declared.tsdus.Tpkt.{Tpkt}
use Rattle.tpkt_cotp.specs.declared.transport.TransportIn.{TransportIn}
use Rattle.ber_grammar.specs.Octets.{IsBytes}
use Rattle.ber_grammar.proofs.OctetLaws.{IsBytes-front, IsBytes-append}
use Rattle.tpkt_cotp.specs.Failing.{Fails}
use Rattle.tpkt_cotp.specs.Packet.{packet, IsPartial, packet_at, Completes}
use Rattle.tpkt_cotp.specs.Tpdu.{tpdu_at}
use Rattle.tpkt_cotp.specs.Stream.{start, Takes, Stops, StandsAt, IsRefused, Took, StopsAt, Advances, FailsAt, gift, StepsFrom, StepsOn}
use Rattle.tpkt_cotp.proofs.PacketLaws.{packet_whole, packet_partial, packet_bad, stays_bad, completes_all, completes_front, completes_none, completes_some}
use Rattle.tpkt_cotp.proofs.StreamLaws.{Takes-then, Takes-one, Took-then, stops_bad, partial_none}

-- ---- a TPKT at the front of a piece

pub begin_none : (s : State) (held piece now rest : List ℕ) → held ≡ [] → IsBytes piece → packet_at piece ≡ Ok None → now ≡ held ++ piece → rest ≡ [] → Advances s held piece s now None rest
begin_none s held piece now rest none fits h e q =
    let is : now ≡ piece = e ∙ ap (λ (x : List ℕ). x ++ piece) none in
    (q, e, refl, subst IsPartial (sym is) (packet_partial piece fits h))

pub begin_some : (s u : State) (held piece tpdu after now : List ℕ) (taken : Tpkt) → held ≡ [] → IsBytes piece → packet_at piece ≡ Ok (Some (tpdu, after)) → taken.octets ≡ length (packet tpdu) → tpdu_at s tpdu ≡ Ok (u, taken.tsdu) → now ≡ held
    → Advances s held piece u now (Some taken) after
begin_some s u held piece tpdu after now taken none fits h count step same =
    let is = packet_whole piece tpdu after fits h in
    (tpdu, packet tpdu, is.0, is.1, ap (λ (x : List ℕ). x ++ packet tpdu) (sym none), count, step, same ∙ none)

pub begin_bad : (f : TpFault) (s : State) (held piece : List ℕ) → held ≡ [] → IsBytes piece → packet_at piece ≡ Err f → FailsAt f s (held ++ piece)
begin_bad f s held piece none fits h some = subst (λ (x : List ℕ). Stops s (x ++ piece) f) (sym none) (stops_bad s piece f fits h)

pub begin_fails : (f : TpFault) (s : State) (held piece tpdu after : List ℕ) → held ≡ [] → IsBytes piece → packet_at piece ≡ Ok (Some (tpdu, after)) → Fails f (tpdu_at s tpdu) → FailsAt f s (held ++ piece)
begin_fails f s held piece tpdu after none fits h fails some =
    let is = packet_whole piece tpdu after fits h in
    subst (λ (x : List ℕ). Stops s (x ++ piece) f) (sym none) (inr (tpdu, after, is.0, is.1, fails some))

pub no_memory : (f : TpFault) (s : State) (input : List ℕ) → f ≡ faults.Memory → FailsAt f s input
no_memory f s input memory some = absurd (some memory)

-- ---- a TPKT that is held

completes_fits : (held piece now rest : List ℕ) → Completes held piece now rest → IsBytes held → IsBytes piece → IsBytes now
completes_fits held piece now rest t a b = IsBytes-front now rest (subst IsBytes (sym (completes_all held piece now rest t)) (IsBytes-append held piece a b))

pub held_none : (s : State) (held piece now rest : List ℕ) → IsBytes held → IsBytes piece → IsPartial held → Completes held piece now rest → packet_at now ≡ Ok None → Advances s held piece s now None rest
held_none s held piece now rest a b was t h =
    let part : IsPartial now = packet_partial now (completes_fits held piece now rest t a b) h in
    let none : rest ≡ [] = completes_none held piece now rest t was part in
    (none, sym (append-nil now) ∙ ap (λ (x : List ℕ). now ++ x) (sym none) ∙ completes_all held piece now rest t, refl, part)

pub held_some : (s u : State) (held piece whole rest tpdu after now : List ℕ) (taken : Tpkt) → IsBytes held → IsBytes piece → IsPartial held → Completes held piece whole rest → packet_at whole ≡ Ok (Some (tpdu, after))
    → taken.octets ≡ length (packet tpdu) → tpdu_at s tpdu ≡ Ok (u, taken.tsdu) → now ≡ [] → Advances s held piece u now (Some taken) rest
held_some s u held piece whole rest tpdu after now taken a b was t h count step same =
    let is = packet_whole whole tpdu after (completes_fits held piece whole rest t a b) h in
    let none : after ≡ [] = completes_some held piece whole rest tpdu after t was is.0 is.1 in
    let one : whole ≡ packet tpdu = is.1 ∙ ap (λ (x : List ℕ). packet tpdu ++ x) none ∙ append-nil (packet tpdu) in
    let f = completes_front held piece whole rest t in
    (tpdu, f.0, is.0, f.1, sym one ∙ f.2, count, step, same)

pub held_bad : (f : TpFault) (s : State) (held piece now rest : List ℕ) → IsBytes held → IsBytes piece → Completes held piece now rest → packet_at now ≡ Err f → FailsAt f s (held ++ piece)
held_bad f s held piece now rest a b t h some =
    subst (λ (x : List ℕ). Stops s x f) (completes_all held piece now rest t) (inl (stays_bad now rest f (packet_bad now f (completes_fits held piece now rest t a b) h)))

pub held_fails : (f : TpFault) (s : State) (held piece now rest tpdu after : List ℕ) → IsBytes held → IsBytes piece → Completes held piece now rest → packet_at now ≡ Ok (Some (tpdu, after)) → Fails f (tpdu_at s tpdu) → FailsAt f s (held ++ piece)
held_fails f s held piece now rest tpdu after a b t h fails some =
    let is = packet_whole now tpdu after (completes_fits held piece now rest t a b) h in
    subst (λ (x : List ℕ). Stops s x f) (completes_all held piece now rest t)
    (inr (tpdu, after ++ rest, is.0, ap (λ (x : List ℕ). x ++ rest) is.1 ∙ append_assoc (packet tpdu) after rest, fails some))

-- ---- the TPKTs of a piece, one after another

pub advances_partial : (s u : State) (held piece now rest : List ℕ) (taken : Option Tpkt) → Advances s held piece u now taken rest → IsPartial now
advances_partial s u held piece now rest None (none, all, same, part) = part
advances_partial s u held piece now rest (Some taken) (tpdu, front, is, cut, whole, count, step, none) = subst IsPartial (sym none) partial_none

-- all of the piece was taken, or nothing is held
pub advances_one : (s u : State) (held piece now rest : List ℕ) (taken : Option Tpkt) → Advances s held piece u now taken rest → (now ≡ []) ⊎ (rest ≡ [])
advances_one s u held piece now rest None (none, all, same, part) = inr none
advances_one s u held piece now rest (Some taken) (tpdu, front, is, cut, whole, count, step, none) = inl none

-- what a step gave was added
pub took_step : (s t u : State) (octets held piece now rest : List ℕ) (before mid later : List Tsdu) (taken : Option Tpkt) → Took s octets before t (held ++ piece) mid → Advances t held piece u now taken rest
    → later ≡ mid ++ option_to_list (gift taken) → Took s octets before u (now ++ rest) later
took_step s t u octets held piece now rest before mid later None took (none, all, same, part) grown =
    let whole : held ++ piece ≡ now ++ rest = sym all ∙ sym (append-nil now) ∙ ap (λ (x : List ℕ). now ++ x) (sym none) in
    rw (same, sym whole, grown, append-nil mid) took
took_step s t u octets held piece now rest before mid later (Some taken) took (tpdu, front, is, cut, whole, count, step, none) grown =
    let all : held ++ piece ≡ packet tpdu ++ rest = ap (λ (x : List ℕ). held ++ x) cut ∙ sym (append_assoc held front rest) ∙ ap (λ (x : List ℕ). x ++ rest) (sym whole) in
    let one : Took t (held ++ piece) mid u rest later = record { given = option_to_list taken.tsdu; takes = Takes-one t u (held ++ piece) tpdu rest taken.tsdu is all step; grew = grown } in
    subst (λ (x : List ℕ). Took s octets before u (x ++ rest) later) (sym none) (Took-then s t u octets (held ++ piece) rest before mid later took one)

pub took_fails : (f : TpFault) (s t : State) (octets bad : List ℕ) (before mid now : List Tsdu) → Took s octets before t bad mid → FailsAt f t bad → now ≡ mid → StopsAt f s octets before now
took_fails f s t octets bad before mid now took fails same = record { state = t; bad = bad; took = subst (λ (x : List Tsdu). Took s octets before t bad x) (sym same) took; stops = fails }

pub stops_then : (f : TpFault) (s t : State) (octets held : List ℕ) (before mid now : List Tsdu) → Took s octets before t held mid → StopsAt f t held mid now → StopsAt f s octets before now
stops_then f s t octets held before mid now a b = record { state = b.state; bad = b.bad; took = Took-then s t b.state octets held b.bad before mid now a b.took; stops = b.stops }

-- ---- an object

pub ready : (t u : TransportIn) (piece rest : List ℕ) (taken : Option Tpkt) → u.refused ≡ None → IsBytes t.held → IsBytes piece → Advances t.state t.held piece u.state u.held taken rest → StepsFrom t u piece taken rest
ready t u piece rest None fine held fits (none, now, same, part) = ((none, now, same, part), record { fine = fine; fits = subst IsBytes (sym now) (IsBytes-append t.held piece held fits); partial = part })
ready t u piece rest (Some taken) fine held fits (tpdu, front, is, cut, whole, count, step, none) =
    ((tpdu, front, is, cut, whole, count, step, none), record { fine = fine; fits = subst IsBytes (sym none) (λ i. omega arith); partial = subst IsPartial (sym none) partial_none })

pub steps_on : (t u : TransportIn) (dialled : Bool) (octets : List ℕ) (so_far : List Tsdu) (piece rest : List ℕ) (taken : Option Tpkt) → u.refused ≡ None → IsBytes piece → StandsAt dialled t.state t.held octets so_far
    → Advances t.state t.held piece u.state u.held taken rest → StepsOn u dialled octets so_far piece taken rest
steps_on t u dialled octets so_far piece rest None fine fits stood (none, held, same, part) =
    let moved : Takes t.state (t.held ++ piece) [] u.state u.held = record { tpdus = []; whole = sym held; each = tt; runs = (refl, same) } in
    record {
      front = piece;
      cut = sym (append-nil piece) ∙ ap (λ (x : List ℕ). piece ++ x) (sym none);
      stands = (fine, record { fits = IsBytes-append octets piece stood.fits fits; takes = Takes-then (start dialled) t.state u.state octets piece t.held u.held so_far [] stood.takes moved; partial = part });
    }
steps_on t u dialled octets so_far piece rest (Some taken) fine fits stood (tpdu, front, is, cut, whole, count, step, none) =
    let moved : Takes t.state (t.held ++ front) (option_to_list taken.tsdu) u.state [] = Takes-one t.state u.state (t.held ++ front) tpdu [] taken.tsdu is (sym whole ∙ sym (append-nil (packet tpdu))) step in
    let all : Takes (start dialled) (octets ++ front) (so_far ++ option_to_list taken.tsdu) u.state [] = Takes-then (start dialled) t.state u.state octets front t.held [] so_far (option_to_list taken.tsdu) stood.takes moved in
    record {
      front = front;
      cut = cut;
      stands = (fine, record { fits = IsBytes-append octets front stood.fits (IsBytes-front front rest (subst IsBytes cut fits)); takes = subst (λ (x : List ℕ). Takes (start dialled) (octets ++ front) (so_far ++ option_to_list taken.tsdu) u.state x) (sym none) all; partial = subst IsPartial (sym none) partial_none });
    }

pub step_refuses : (f : TpFault) (t : TransportIn) (dialled : Bool) (octets : List ℕ) (so_far : List Tsdu) (piece : List ℕ) → IsBytes piece → StandsAt dialled t.state t.held octets so_far → FailsAt f t.state (t.held ++ piece) → f ≢ faults.Memory → IsRefused dialled (octets ++ piece) so_far f
step_refuses f t dialled octets so_far piece fits stood fails some =
    let moved : Takes t.state (t.held ++ piece) [] t.state (t.held ++ piece) = record { tpdus = []; whole = refl; each = tt; runs = (refl, refl) } in
    let all : Takes (start dialled) (octets ++ piece) (so_far ++ []) t.state (t.held ++ piece) = Takes-then (start dialled) t.state t.state octets piece t.held (t.held ++ piece) so_far [] stood.takes moved in
    record {
      fits = IsBytes-append octets piece stood.fits fits;
      state = t.state;
      bad = t.held ++ piece;
      takes = subst (λ (x : List Tsdu). Takes (start dialled) (octets ++ piece) x t.state (t.held ++ piece)) (append-nil so_far) all;
      stops = fails some;
    }
