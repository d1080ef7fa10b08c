-- What a connection stands for, one piece more.
use Rattle.std.proofs.Common.{◌≡◌, ℕ, ◌-◌, ◌⊎◌, inl, inr, Bool, true, false, List, [], ◌∷◌, ◌++◌, length, refl, sym, ap, subst, ◌∙◌, append-nil, arith}
use Rattle.std.specs.List.{flat_map, AllByRecursion}
use Rattle.std.proofs.lemmas.List.{length-append}
use Rattle.std.proofs.lemmas.List.Concat.{flat_map-cons}
use Rattle.tpkt_cotp.specs.declared.state.State.{State}
use Rattle.tpkt_cotp.specs.declared.transport.TransportIn.{TransportIn}
use Rattle.tpkt_cotp.specs.declared.tsdus.Tsdu.{Tsdu}
use Rattle.ber_grammar.specs.Octets.{IsBytes}
use Rattle.ber_grammar.proofs.OctetLaws.{IsBytes-append}
use Rattle.tpkt_cotp.specs.Packet.{packet, IsPartial}
use Rattle.tpkt_cotp.specs.Stream.{start, StandsFor, Runs as TransportRuns}
use Rattle.tpkt_cotp.proofs.StreamLaws.{partial_none}
use Rattle.osi_stack.specs.declared.connection.Link.{Link}
use Rattle.osi_stack.specs.declared.events.Event.{Event}
use Rattle.osi_stack.specs.declared.fault.StackFault.{StackFault}
use Rattle.osi_stack.specs.declared.fault.StackFault.TheVariants.{Memory, Refused}
use Rattle.osi_stack.specs.declared.phase.Phase.{Phase}
use Rattle.osi_stack.specs.Lines.{HasLine}
use Rattle.osi_stack.specs.Stream.{Stand, has_ended, Runs, Takes, count_of}
use Rattle.osi_stack.specs.Going.{stand, IsUsable, counted, held_with, Went, WentAll, Why, Halts}
use Rattle.osi_stack.specs.Standing.{Stands, IsRefusedAt, StopsAt}
use Rattle.osi_stack.proofs.ConnectionLaws.{All-append, Takes-then, Takes-none, Takes-less}
use Rattle.list_laws.proofs.Truths.{never-both}

-- ---- nothing has come

nothing_runs : (s t : State) (tpdus : List (List ℕ)) (given : List Tsdu) (rest : List ℕ) → [] ≡ flat_map packet tpdus ++ rest → TransportRuns s tpdus given t → (t ≡ s) × (rest ≡ [])
nothing_runs s t [] given rest whole runs = (runs.1, sym whole)
nothing_runs s t (p ∷ ps) given rest whole runs = absurd (omega (arith, ap (λ (x : List ℕ). length x) (whole ∙ ap (λ (x : List ℕ). x ++ rest) (flat_map-cons packet p ps))))

nothing_yet : (t : TransportIn) (dialled : Bool) → StandsFor t dialled [] [] → (t.state ≡ start dialled) × (t.held ≡ [])
nothing_yet t dialled (fine, at) = nothing_runs (start dialled) t.state at.takes.tpdus [] t.held at.takes.whole at.takes.runs

pub nothing_stands : (t : TransportIn) (dialled : Bool) (phase : Phase) → StandsFor t dialled [] [] → has_ended phase ≡ false
    → Stands (record { transport = start dialled; phase = phase }) (record { transport = t; phase = phase; octets = 0 }) [] []
nothing_stands t dialled phase stood on =
    let none = nothing_yet t dialled stood in
    record {
      rest = [];
      at = record {
        fits = λ i. omega arith;
        takes = Takes-none (record { transport = start dialled; phase = phase }) (record { transport = t.state; phase = phase }) [] [] (ap (λ (x : State). let s : Stand = record { transport = x; phase = phase } in s) none.0) refl;
        left = inl (on, partial_none);
      };
      held = λ still. sym none.1;
      count = λ still. refl;
    }

-- ---- after the end

no_runs : (s t : Stand) (tpdus : List (List ℕ)) (es : List Event) → has_ended s.phase ≡ true → Runs s tpdus es t → (es ≡ []) × (t ≡ s)
no_runs s t [] es over runs = (runs.0, runs.1)
no_runs s t (p ∷ ps) es over (on, mid, first, others, step, split, runs) = absurd cc

-- ---- one piece more

-- what was there until now, where the association goes on
on_with : (from t : Stand) (a : Link) (octets piece rest : List ℕ) (so_far given : List Event) → Stands from a octets so_far → has_ended a.phase ≡ false → Takes (stand a) (held_with a piece) given t rest → Takes from (octets ++ piece) (so_far ++ given) t rest
on_with from t a octets piece rest so_far given s on takes =
    Takes-then from (stand a) t octets piece a.transport.held rest so_far given (subst (λ (x : List ℕ). Takes from octets so_far (stand a) x) (s.held on) s.at.takes) takes

-- and where it has ended
over_with : (from t : Stand) (a : Link) (octets piece rest : List ℕ) (so_far given : List Event) (s : Stands from a octets so_far) → has_ended a.phase ≡ true → Takes (stand a) (held_with a piece) given t rest
    → (t ≡ stand a) × Takes from (octets ++ piece) (so_far ++ given) t (s.rest ++ piece)
over_with from t a octets piece rest so_far given s over takes =
    let none = no_runs (stand a) t takes.tpdus given over takes.runs in
    let nothing : Takes (stand a) (s.rest ++ piece) given t (s.rest ++ piece) = subst (λ (x : List Event). Takes (stand a) (s.rest ++ piece) x t (s.rest ++ piece)) (sym none.0) (Takes-none (stand a) t (s.rest ++ piece) (s.rest ++ piece) none.1 refl) in
    (none.1, Takes-then from (stand a) t octets piece s.rest (s.rest ++ piece) so_far given s.at.takes nothing)

-- how many octets that makes
count_with : (from t : Stand) (a : Link) (octets piece rest : List ℕ) (so_far given : List Event) (s : Stands from a octets so_far) (n : ℕ) → has_ended a.phase ≡ false → Takes (stand a) (held_with a piece) given t rest
    → n ≡ counted a.octets (length (held_with a piece) - length rest) → n ≡ count_of (octets ++ piece) rest
count_with from t a octets piece rest so_far given s n on takes is = omega (
  arith,
  is,
  s.count on,
  ap (λ (x : List ℕ). length x) (s.held on),
  Takes-less from (stand a) octets s.rest so_far s.at.takes,
  Takes-less (stand a) t (held_with a piece) rest given takes,
  length-append octets piece,
  length-append a.transport.held piece,
)

still_on : (b : Link) (rest : List ℕ) → (rest ≡ []) ⊎ (has_ended b.phase ≡ true) → has_ended b.phase ≡ false → held_with b rest ≡ b.transport.held
still_on b rest (inl none) on = ap (λ (x : List ℕ). b.transport.held ++ x) none ∙ append-nil b.transport.held
still_on b rest (inr over) on = absurd cc

left_of : (x : Bool) (b : Link) (rest : List ℕ) → has_ended b.phase ≡ x → (rest ≡ []) ⊎ (has_ended b.phase ≡ true) → IsUsable b → ((has_ended b.phase ≡ false) × IsPartial (held_with b rest)) ⊎ (has_ended b.phase ≡ true)
left_of true b rest e all usable = inr e
left_of false b rest e all usable = inl (e, subst IsPartial (sym (still_on b rest all e)) usable.ready.partial)

goes_still : (from : Stand) (a b : Link) (octets piece rest : List ℕ) (so_far before now : List Event) → IsBytes piece → Stands from a octets so_far → (went : Went a b piece rest before now) → (rest ≡ []) ⊎ (has_ended b.phase ≡ true) → has_ended a.phase ≡ false
    → Stands from b (octets ++ piece) (so_far ++ went.given)
goes_still from a b octets piece rest so_far before now fits s went all on = record {
  rest = held_with b rest;
  at = record {
    fits = IsBytes-append octets piece s.at.fits fits;
    takes = on_with from (stand b) a octets piece (held_with b rest) so_far went.given s on went.takes;
    left = left_of (has_ended b.phase) b rest refl all went.usable;
  };
  held = λ still. still_on b rest all still;
  count = λ still. count_with from (stand b) a octets piece (held_with b rest) so_far went.given s b.octets on went.takes went.counts;
}

-- the end stays
over_still : (a b : Link) → has_ended a.phase ≡ true → stand b ≡ stand a → has_ended b.phase ≡ true
over_still a b over same = ap (λ (x : Stand). has_ended x.phase) same ∙ over

goes_nowhere : (from : Stand) (a b : Link) (octets piece rest : List ℕ) (so_far before now : List Event) → IsBytes piece → Stands from a octets so_far → (went : Went a b piece rest before now) → has_ended a.phase ≡ true → Stands from b (octets ++ piece) (so_far ++ went.given)
goes_nowhere from a b octets piece rest so_far before now fits s went over =
    let o = over_with from (stand b) a octets piece (held_with b rest) so_far went.given s over went.takes in
    let end : has_ended b.phase ≡ true = over_still a b over o.0 in
    record {
      rest = s.rest ++ piece;
      at = record { fits = IsBytes-append octets piece s.at.fits fits; takes = o.1; left = inr end };
      held = λ on. absurd (never-both (has_ended b.phase) end on);
      count = λ on. absurd (never-both (has_ended b.phase) end on);
    }

pub goes_on : (from : Stand) (a b : Link) (octets piece : List ℕ) (so_far before now : List Event) → IsBytes piece → Stands from a octets so_far → WentAll a b piece before now
    → (more : List Event) × (now ≡ before ++ more) × Stands from b (octets ++ piece) (so_far ++ more)
goes_on from a b octets piece so_far before now fits s (rest, went, all) = (went.given, went.grew, by_phase (has_ended a.phase) refl)
  where
    by_phase : (x : Bool) → has_ended a.phase ≡ x → Stands from b (octets ++ piece) (so_far ++ went.given)
    by_phase false on = goes_still from a b octets piece rest so_far before now fits s went all on
    by_phase true over = goes_nowhere from a b octets piece rest so_far before now fits s went over

-- ---- a refusal

refused_on : (f : StackFault) (from t : Stand) (a : Link) (octets piece bad : List ℕ) (so_far given : List Event) (s : Stands from a octets so_far) → IsBytes piece → has_ended a.phase ≡ false → Takes (stand a) (held_with a piece) given t bad
    → Why f t bad (counted a.octets (length (held_with a piece) - length bad)) → IsRefusedAt f from (octets ++ piece) (so_far ++ given)
refused_on Memory from t a octets piece bad so_far given s fits on takes why = tt
refused_on (Refused layer code count) from t a octets piece bad so_far given s fits on takes (still, stops, same) = record {
  fits = IsBytes-append octets piece s.at.fits fits;
  stand = t;
  bad = bad;
  takes = on_with from t a octets piece bad so_far given s on takes;
  on = still;
  stops = stops;
  is_count = count_with from t a octets piece bad so_far given s count on takes same;
}

refused_over : (f : StackFault) (from t : Stand) (a : Link) (octets bad : List ℕ) (events : List Event) (count : ℕ) → has_ended a.phase ≡ true → t ≡ stand a → Why f t bad count → IsRefusedAt f from octets events
refused_over Memory from t a octets bad events count over same why = tt
refused_over (Refused layer code told) from t a octets bad events count over same (still, stops, is) = absurd (never-both (has_ended t.phase) (ap (λ (x : Stand). has_ended x.phase) same ∙ over) still)

pub stops_at : (f : StackFault) (from : Stand) (a : Link) (octets piece : List ℕ) (so_far before now : List Event) → IsBytes piece → Stands from a octets so_far → Halts f a piece before now → StopsAt f from (octets ++ piece) so_far before now
stops_at f from a octets piece so_far before now fits s h = by_phase (has_ended a.phase) refl
  where
    by_phase : (x : Bool) → has_ended a.phase ≡ x → StopsAt f from (octets ++ piece) so_far before now
    by_phase false on = (h.given, h.grew, (h.stand_there, h.bad, on_with from h.stand_there a octets piece h.bad so_far h.given s on h.takes), refused_on f from h.stand_there a octets piece h.bad so_far h.given s fits on h.takes h.why)
    by_phase true over =
        let o = over_with from h.stand_there a octets piece h.bad so_far h.given s over h.takes in
        (h.given, h.grew, (h.stand_there, s.rest ++ piece, o.1), refused_over f from h.stand_there a (octets ++ piece) h.bad (so_far ++ h.given) _ over o.0 h.why)

-- ---- lines

pub lines_went : (a b : Link) (piece : List ℕ) (before now : List Event) → WentAll a b piece before now → AllByRecursion HasLine before → AllByRecursion HasLine now
lines_went a b piece before now (rest, went, all) lines = rw (went.grew) (All-append HasLine before went.given lines went.lines)

pub lines_halt : (f : StackFault) (a : Link) (piece : List ℕ) (before now : List Event) → Halts f a piece before now → AllByRecursion HasLine before → AllByRecursion HasLine now
lines_halt f a piece before now h lines = rw (h.grew) (All-append HasLine before h.given lines h.lines)
