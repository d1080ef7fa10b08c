-- What a connection keeps, one TPKT more and one piece more.
use Rattle.std.proofs.Common.{◌≡◌, ℕ, ◌≤◌, inl, inr, false, List, [], ◌∷◌, ◌++◌, length, Option, Some, None, Ok, Err, refl, sym, ap, subst, ◌∙◌, append_assoc, append-nil, arith}
use Rattle.std.specs.Option.{option_to_list}
use Rattle.std.specs.List.{flat_map, AllByRecursion}
use Rattle.std.proofs.lemmas.List.{length-append}
use Rattle.std.proofs.lemmas.List.Concat.{flat_map-append, flat_map-cons}
use Rattle.tpkt_cotp.specs.declared.fault.TpFault.{TpFault}
use Rattle.tpkt_cotp.specs.declared.fault.TpFault.TheVariants as transport
use Rattle.tpkt_cotp.specs.declared.state.State.{State}
use Rattle.tpkt_cotp.specs.declared.tsdus.Tpkt.{Tpkt}
use Rattle.tpkt_cotp.specs.declared.tsdus.Tsdu.{Tsdu}
use Rattle.tpkt_cotp.specs.Packet.{packet, IsTpdu}
use Rattle.tpkt_cotp.specs.Tpdu.{tpdu_at}
use Rattle.tpkt_cotp.specs.Stream.{IsReady, StepsFrom, Advances, FailsAt, Stops as TransportStops}
use Rattle.osi_stack.specs.declared.cause.Cause.{Cause}
use Rattle.osi_stack.specs.declared.cause.Stop.{Stop}
use Rattle.osi_stack.specs.declared.cause.Stop.TheVariants as stops
use Rattle.osi_stack.specs.declared.connection.Link.{Link}
use Rattle.osi_stack.specs.declared.events.Event.{Event}
use Rattle.osi_stack.specs.declared.phase.Phase.{Phase}
use Rattle.osi_stack.specs.Causes.{of_transport, transport_stop}
use Rattle.osi_stack.specs.Lines.{HasLine}
use Rattle.osi_stack.specs.Stream.{Stand, gifts_at, step_at, has_ended, Runs, Takes, Stops}
use Rattle.osi_stack.specs.Going.{stand, IsUsable, Adds, AddsTpkt, StaysTpkt, counted, held_with, Went, HaltsAt}

-- ---- two goes are one

Runs-append : (s t u : Stand) (ps qs : List (List ℕ)) (a b : List Event) → Runs s ps a t → Runs t qs b u → Runs s (ps ++ qs) (a ++ b) u
Runs-append s t u [] qs a b p q = rw (p.0) (subst (λ (x : Stand). Runs x qs b u) p.1 q)
Runs-append s t u (x ∷ ps) qs a b (on, mid, first, others, step, split, p) q =
    (on, mid, first, others ++ b, step, ap (λ (y : List Event). y ++ b) split ∙ append_assoc (option_to_list first) others b, Runs-append mid t u ps qs others b p q)

pub All-append : {A : Type 0} (P : A → Type 0) (xs ys : List A) → AllByRecursion P xs → AllByRecursion P ys → AllByRecursion P (xs ++ ys)
All-append P [] ys p q = q
All-append P (x ∷ xs) ys p q = (p.0, All-append P xs ys p.1 q)

-- what is taken in two goes is taken in one
pub Takes-then : (s t u : Stand) (b piece held rest : List ℕ) (es more : List Event) → Takes s b es t held → Takes t (held ++ piece) more u rest → Takes s (b ++ piece) (es ++ more) u rest
Takes-then s t u b piece held rest es more p q = record {
  tpdus = p.tpdus ++ q.tpdus;
  whole = ap (λ (x : List ℕ). x ++ piece) p.whole ∙ append_assoc (flat_map packet p.tpdus) held piece ∙ ap (λ (x : List ℕ). flat_map packet p.tpdus ++ x) q.whole
      ∙ sym (append_assoc (flat_map packet p.tpdus) (flat_map packet q.tpdus) rest) ∙ ap (λ (x : List ℕ). x ++ rest) (sym (flat_map-append packet p.tpdus q.tpdus));
  each = All-append IsTpdu p.tpdus q.tpdus p.each q.each;
  runs = Runs-append s t u p.tpdus q.tpdus es more p.runs q.runs;
}

pub Takes-both : (s t u : Stand) (b held rest : List ℕ) (es more : List Event) → Takes s b es t held → Takes t held more u rest → Takes s b (es ++ more) u rest
Takes-both s t u b held rest es more p q =
    subst (λ (x : List ℕ). Takes s x (es ++ more) u rest) (append-nil b) (Takes-then s t u b [] held rest es more p (subst (λ (x : List ℕ). Takes t x more u rest) (sym (append-nil held)) q))

pub Takes-none : (s t : Stand) (octets rest : List ℕ) → t ≡ s → octets ≡ rest → Takes s octets [] t rest
Takes-none s t octets rest same whole = record { tpdus = []; whole = whole; each = tt; runs = (refl, same) }

pub Takes-less : (s t : Stand) (octets rest : List ℕ) (es : List Event) → Takes s octets es t rest → length rest ≤ length octets
Takes-less s t octets rest es p = omega (arith, ap (λ (x : List ℕ). length x) p.whole, length-append (flat_map packet p.tpdus) rest)

pub Takes-one : (s t : Stand) (octets tpdu after : List ℕ) (e : Option Event) → has_ended s.phase ≡ false → IsTpdu tpdu → octets ≡ packet tpdu ++ after → step_at s tpdu ≡ Ok (t, e) → Takes s octets (option_to_list e) t after
Takes-one s t octets tpdu after e on is whole step = record {
  tpdus = tpdu ∷ [];
  whole = whole ∙ ap (λ (x : List ℕ). x ++ after) (sym (append-nil (packet tpdu)) ∙ sym (flat_map-cons packet tpdu []));
  each = (is, tt);
  runs = (on, t, e, [], step, sym (append-nil (option_to_list e)), (refl, refl));
}

-- ---- one TPKT

pub step_is : (s : Stand) (t : State) (tpdu : List ℕ) (given : Option Tsdu) (next : Phase) (e : Option Event) → tpdu_at s.transport tpdu ≡ Ok (t, given) → gifts_at s.phase given ≡ Ok (next, e)
    → step_at s tpdu ≡ Ok ((let u : Stand = record { transport = t; phase = next } in u), e)
unfolding step_at
step_is s t tpdu given next e step gift = rw (step, gift) refl

pub step_fails : (s : Stand) (t : State) (tpdu : List ℕ) (given : Option Tsdu) (c : Cause) → tpdu_at s.transport tpdu ≡ Ok (t, given) → gifts_at s.phase given ≡ Err c → step_at s tpdu ≡ Err c
unfolding step_at
step_fails s t tpdu given c step gift = rw (step, gift) refl

pub step_refused : (s : Stand) (tpdu : List ℕ) (f : TpFault) → tpdu_at s.transport tpdu ≡ Err f → step_at s tpdu ≡ Err (of_transport f)
unfolding step_at
step_refused s tpdu f step = rw step refl

-- no TPKT is whole yet
went_none : (a b : Link) (piece rest : List ℕ) (now : List Event) → IsUsable a → IsReady b.transport → b.phase ≡ a.phase → b.octets ≡ a.octets → Advances a.transport.state a.transport.held piece b.transport.state b.transport.held None rest
    → Went a b piece rest now now
went_none a b piece rest now usable ready phase octets (none, held, same, part) =
    let whole : held_with a piece ≡ held_with b rest = sym held ∙ sym (append-nil b.transport.held) ∙ ap (λ (x : List ℕ). b.transport.held ++ x) (sym none) in
    record {
      given = [];
      takes = Takes-none (stand a) (stand b) (held_with a piece) (held_with b rest) (stand_is b.transport.state a.transport.state b.phase a.phase same phase) whole;
      grew = sym (append-nil now);
      lines = tt;
      counts = omega (arith, octets, usable.count, ap (λ (x : List ℕ). length x) whole);
      usable = record { ready = ready; agreed = rw phase usable.agreed; count = rw octets usable.count };
    }
  where
    stand_is : (s t : State) (p q : Phase) → s ≡ t → p ≡ q → (let x : Stand = record { transport = s; phase = p } in x) ≡ (let y : Stand = record { transport = t; phase = q } in y)
    stand_is s t p q e h = rw (e, h) refl

-- a TPKT was completed
went_packet : (a b : Link) (piece rest : List ℕ) (taken : Tpkt) (before now : List Event) → has_ended a.phase ≡ false → IsReady b.transport → Advances a.transport.state a.transport.held piece b.transport.state b.transport.held (Some taken) rest
    → Adds a.phase taken.tsdu b.phase before now → b.octets ≡ counted a.octets taken.octets → Went a b piece rest before now
went_packet a b piece rest taken before now on ready (tpdu, front, is, cut, whole, count, step, none) (e, gift, grew, sound) octets =
    let all : held_with a piece ≡ packet tpdu ++ rest = ap (λ (x : List ℕ). a.transport.held ++ x) cut ∙ sym (append_assoc a.transport.held front rest) ∙ ap (λ (x : List ℕ). x ++ rest) (sym whole) in
    let left : rest ≡ held_with b rest = ap (λ (x : List ℕ). x ++ rest) (sym none) in
    record {
      given = option_to_list e;
      takes = subst (λ (x : List ℕ). Takes (stand a) (held_with a piece) (option_to_list e) (stand b) x) left (Takes-one (stand a) (stand b) (held_with a piece) tpdu rest e on is all (step_is (stand a) b.transport.state tpdu taken.tsdu b.phase e step gift));
      grew = grew;
      lines = sound.1;
      counts = omega (arith, octets, count, ap (λ (x : List ℕ). length x) all, length-append (packet tpdu) rest, ap (λ (x : List ℕ). length x) left);
      usable = record { ready = ready; agreed = sound.0; count = omega (arith, octets) };
    }

pub went_taken : (a b : Link) (piece rest : List ℕ) (taken : Option Tpkt) (before now : List Event) → IsUsable a → has_ended a.phase ≡ false → StepsFrom a.transport b.transport piece taken rest
    → AddsTpkt a.phase a.octets taken b.phase b.octets before now → Went a b piece rest before now
went_taken a b piece rest None before now usable on (h, ready) (phase, octets, same) = subst (λ (x : List Event). Went a b piece rest before x) (sym same) (went_none a b piece rest before usable ready phase octets h)
went_taken a b piece rest (Some taken) before now usable on (h, ready) (adds, octets) = went_packet a b piece rest taken before now on ready h adds octets

-- ---- a refusal

transport_stops : (f : TpFault) (s : Stand) (input : List ℕ) → TransportStops s.transport input f → Stops s input (of_transport f)
transport_stops f s input (inl bad) = inl (f, bad, refl)
transport_stops f s input (inr (tpdu, more, is, whole, step)) = inr (tpdu, more, is, whole, step_refused s tpdu f step)

-- what the transport refuses
pub transport_halts : (f : TpFault) (s : Stand) (input : List ℕ) → FailsAt f s.transport input → HaltsAt (transport_stop f) s input
transport_halts transport.Memory s input h = tt
transport_halts transport.Version s input h = transport_stops transport.Version s input (h (λ e. cc))
transport_halts transport.Length s input h = transport_stops transport.Length s input (h (λ e. cc))
transport_halts transport.Tpdu s input h = transport_stops transport.Tpdu s input (h (λ e. cc))
transport_halts transport.Class s input h = transport_stops transport.Class s input (h (λ e. cc))
transport_halts transport.Sequence s input h = transport_stops transport.Sequence s input (h (λ e. cc))
transport_halts transport.TsduLimit s input h = transport_stops transport.TsduLimit s input (h (λ e. cc))

-- what a layer above it refuses
pub taken_halts : (a : Link) (t : State) (held piece rest : List ℕ) (taken : Option Tpkt) (before now : List Event) (s : Stop) → Advances a.transport.state a.transport.held piece t held taken rest → StaysTpkt s a.phase taken before now
    → (now ≡ before) × HaltsAt s (stand a) (held_with a piece)
taken_halts a t held piece rest None before now s h stays = absurd stays
taken_halts a t held piece rest (Some taken) before now stops.Memory h stays = (stays.0, tt)
taken_halts a t held piece rest (Some taken) before now (stops.Refused cause) (tpdu, front, is, cut, whole, count, step, none) (same, stop) =
    let all : held_with a piece ≡ packet tpdu ++ rest = ap (λ (x : List ℕ). a.transport.held ++ x) cut ∙ sym (append_assoc a.transport.held front rest) ∙ ap (λ (x : List ℕ). x ++ rest) (sym whole) in
    (same, inr (tpdu, rest, is, all, step_fails (stand a) t tpdu taken.tsdu cause step stop))

-- ---- a piece

pub went_then : (a b c : Link) (piece mid rest : List ℕ) (before half now : List Event) → Went a b piece mid before half → Went b c mid rest half now → Went a c piece rest before now
went_then a b c piece mid rest before half now p q = record {
  given = p.given ++ q.given;
  takes = Takes-both (stand a) (stand b) (stand c) (held_with a piece) (held_with b mid) (held_with c rest) p.given q.given p.takes q.takes;
  grew = q.grew ∙ ap (λ (x : List Event). x ++ q.given) p.grew ∙ append_assoc before p.given q.given;
  lines = All-append HasLine p.given q.given p.lines q.lines;
  counts = omega (arith, p.counts, q.counts, Takes-less (stand a) (stand b) (held_with a piece) (held_with b mid) p.given p.takes, Takes-less (stand b) (stand c) (held_with b mid) (held_with c rest) q.given q.takes);
  usable = q.usable;
}
