-- Streams, one TPKT more and one piece more.
use Rattle.std.proofs.Common.{◌≡◌, ℕ, ◌⊎◌, List, [], ◌∷◌, ◌++◌, Option, Some, None, Result, Ok, Err, refl, sym, ap, subst, ◌∙◌, inl, inr, append_assoc, Bool, arith}
use Rattle.std.specs.Option.{option_to_list}
use Rattle.std.specs.List.{flat_map, AllByRecursion}
use Rattle.std.proofs.lemmas.List.{append-nil}
use Rattle.std.proofs.lemmas.List.Concat.{flat_map-append, flat_map-cons}
use Rattle.ber_grammar.specs.Octets.{IsBytes}
use Rattle.ber_grammar.proofs.OctetLaws.{IsBytes-back, IsBytes-append}
use Rattle.tpkt_cotp.specs.declared.fault.TpFault.{TpFault}
use Rattle.tpkt_cotp.specs.Packet.{packet, IsTpdu, IsPartial, packet_at}
use Rattle.tpkt_cotp.specs.declared.state.State.{State}
use Rattle.tpkt_cotp.specs.declared.tsdus.Tsdu.{Tsdu}
use Rattle.tpkt_cotp.specs.Tpdu.{tpdu_at}
use Rattle.tpkt_cotp.specs.Stream.{start, Runs, Takes, Took, TookAll, Stops, StopsAt, StandsAt, IsRefused, GoesOn, Refuses}
use Rattle.tpkt_cotp.specs.declared.transport.TransportIn.{TransportIn}
use Rattle.tpkt_cotp.proofs.PacketLaws.{packet_whole, packet_partial, packet_bad, packet_again, bad_again, stays_bad, partial_again, found_is}

pub Runs-append : (s t u : State) (ps qs : List (List ℕ)) (a b : List Tsdu) → Runs s ps a t → Runs t qs b u → Runs s (ps ++ qs) (a ++ b) u
Runs-append s t u [] qs a b p q = rw (p.0) (subst (λ (x : State). Runs x qs b u) p.1 q)
Runs-append s t u (x ∷ ps) qs a b (mid, first, others, step, split, p) q =
    (mid, first, others ++ b, step, ap (λ (y : List Tsdu). y ++ b) split ∙ append_assoc (option_to_list first) others b, Runs-append mid t u ps qs others b p q)

All-append : (ps qs : List (List ℕ)) → AllByRecursion IsTpdu ps → AllByRecursion IsTpdu qs → AllByRecursion IsTpdu (ps ++ qs)
All-append [] qs p q = q
All-append (x ∷ ps) qs p q = (p.0, All-append ps qs p.1 q)

-- what is taken in two goes is taken in one
pub Takes-then : (s t u : State) (b piece held rest : List ℕ) (es more : List Tsdu) → Takes s b es t held → Takes t (held ++ piece) more u rest → Takes s (b ++ piece) (es ++ more) u rest
Takes-then s t u b piece held rest es more p q = record {
  tpdus = p.tpdus ++ q.tpdus;
  whole = ap (λ (x : List ℕ). x ++ piece) p.whole ∙ append_assoc (flat_map packet p.tpdus) held piece ∙ ap (λ (x : List ℕ). flat_map packet p.tpdus ++ x) q.whole
      ∙ sym (append_assoc (flat_map packet p.tpdus) (flat_map packet q.tpdus) rest) ∙ ap (λ (x : List ℕ). x ++ rest) (sym (flat_map-append packet p.tpdus q.tpdus));
  each = All-append p.tpdus q.tpdus p.each q.each;
  runs = Runs-append s t u p.tpdus q.tpdus es more p.runs q.runs;
}

pub Takes-one : (t u : State) (rest tpdu after : List ℕ) (first : Option Tsdu) → IsTpdu tpdu → rest ≡ packet tpdu ++ after → tpdu_at t tpdu ≡ Ok (u, first) → Takes t rest (option_to_list first) u after
Takes-one t u rest tpdu after first is whole step = record {
  tpdus = tpdu ∷ [];
  whole = whole ∙ ap (λ (x : List ℕ). x ++ after) (sym (append-nil (packet tpdu)) ∙ sym (flat_map-cons packet tpdu []));
  each = (is, tt);
  runs = (u, first, [], step, sym (append-nil (option_to_list first)), (refl, refl));
}

pub Took-none : (s : State) (octets : List ℕ) (before : List Tsdu) → Took s octets before s octets before
Took-none s octets before = record { given = []; takes = record { tpdus = []; whole = refl; each = tt; runs = (refl, refl) }; grew = sym (append-nil before) }

pub after_fits : (rest tpdu after : List ℕ) → IsBytes rest → packet_at rest ≡ Ok (Some (tpdu, after)) → IsBytes after
after_fits rest tpdu after fits one = IsBytes-back (packet tpdu) after (subst IsBytes (packet_whole rest tpdu after fits one).1 fits)

pub stops_bad : (t : State) (rest : List ℕ) (f : TpFault) → IsBytes rest → packet_at rest ≡ Err f → Stops t rest f
stops_bad t rest f fits h = inl (packet_bad rest f fits h)

packet_none : packet_at [] ≡ Ok None
unfolding packet_at
packet_none = refl

pub partial_none : IsPartial []
partial_none = packet_partial [] (λ i. omega arith) packet_none

-- ---- what is done in two goes is done in one

pub Took-then : (s t u : State) (octets held rest : List ℕ) (before mid now : List Tsdu) → Took s octets before t held mid → Took t held mid u rest now → Took s octets before u rest now
Took-then s t u octets held rest before mid now a b =
    let joined : Takes s (octets ++ []) (a.given ++ b.given) u rest = Takes-then s t u octets [] held rest a.given b.given a.takes (subst (λ (x : List ℕ). Takes t x b.given u rest) (sym (append-nil held)) b.takes) in
    record {
      given = a.given ++ b.given;
      takes = subst (λ (x : List ℕ). Takes s x (a.given ++ b.given) u rest) (append-nil octets) joined;
      grew = b.grew ∙ ap (λ (x : List Tsdu). x ++ b.given) a.grew ∙ append_assoc before a.given b.given;
    }

-- ---- a piece more

pub held_fits : (dialled : Bool) (s : State) (held b : List ℕ) (es : List Tsdu) → StandsAt dialled s held b es → IsBytes held
held_fits dialled s held b es stood = IsBytes-back (flat_map packet stood.takes.tpdus) held (subst IsBytes stood.takes.whole stood.fits)

pub goes_for : (t : TransportIn) (dialled : Bool) (s : State) (held piece b : List ℕ) (es before now : List Tsdu) → t.refused ≡ None → IsBytes piece → StandsAt dialled s held b es → TookAll s (held ++ piece) before t.state t.held now
    → GoesOn t dialled (b ++ piece) es before now
goes_for t dialled s held piece b es before now none fits stood h = (
  h.0.given,
  h.0.grew,
  (none, record { fits = IsBytes-append b piece stood.fits fits; takes = Takes-then (start dialled) s t.state b piece held t.held es h.0.given stood.takes h.0.takes; partial = h.1 }),
)

pub refuses : (f : TpFault) (dialled : Bool) (s : State) (held piece b : List ℕ) (es before now : List Tsdu) → IsBytes piece → StandsAt dialled s held b es → StopsAt f s (held ++ piece) before now
    → Refuses f dialled (b ++ piece) es before now
refuses f dialled s held piece b es before now fits stood h =
    let takes : Takes (start dialled) (b ++ piece) (es ++ h.took.given) h.state h.bad = Takes-then (start dialled) s h.state b piece held h.bad es h.took.given stood.takes h.took.takes in
    (h.took.given, h.took.grew, (h.state, h.bad, takes), λ some. record { fits = IsBytes-append b piece stood.fits fits; state = h.state; bad = h.bad; takes = takes; stops = h.stops some })

pub stands_first : (dialled : Bool) (s : State) (held : List ℕ) → s ≡ start dialled → held ≡ [] → StandsAt dialled s held [] []
stands_first dialled s held p q = record {
  fits = λ i. omega arith;
  takes = record { tpdus = []; whole = sym q; each = tt; runs = (refl, p) };
  partial = subst IsPartial (sym q) partial_none;
}

pub first_packet : (octets p : List ℕ) (ps : List (List ℕ)) (rest : List ℕ) → octets ≡ flat_map packet (p ∷ ps) ++ rest → IsTpdu p → packet_at octets ≡ Ok (Some (p, flat_map packet ps ++ rest))
first_packet octets p ps rest w is = ap packet_at (w ∙ ap (λ (x : List ℕ). x ++ rest) (flat_map-cons packet p ps) ∙ append_assoc (packet p) (flat_map packet ps) rest) ∙ packet_again p (flat_map packet ps ++ rest) is

-- ---- a stream gives one thing

abbrev went : State × Option Tsdu → Result (State × Option Tsdu) TpFault
went x = Ok x

went_is : (x y : State × Option Tsdu) → went x ≡ went y → x ≡ y
went_is x y e = cc

-- how a stream ends: with the beginning of a TPKT, or refused
abbrev pub Ends : State → List ℕ → Option TpFault → Type 0
Ends s rest None = IsPartial rest
Ends s rest (Some f) = Stops s rest f

abbrev EndReads : State → List ℕ → Option TpFault → Type 0
EndReads s rest None = packet_at rest ≡ Ok None
EndReads s rest (Some f) = (packet_at rest ≡ Err f) ⊎ ((tpdu after : List ℕ) × (packet_at rest ≡ Ok (Some (tpdu, after))) × (tpdu_at s tpdu ≡ Err f))

end_reads : (s : State) (rest : List ℕ) (e : Option TpFault) → IsBytes rest → Ends s rest e → EndReads s rest e
end_reads s rest None fits h = partial_again rest fits h
end_reads s rest (Some f) fits (inl bad) = inl (bad_again rest f bad)
end_reads s rest (Some f) fits (inr (tpdu, more, is, whole, step)) = inr (tpdu, more, ap packet_at whole ∙ packet_again tpdu more is, step)

same_end : (s : State) (rest : List ℕ) (e g : Option TpFault) → EndReads s rest e → EndReads s rest g → e ≡ g
same_end s rest None None a b = refl
same_end s rest None (Some g) a (inl b) = absurd cc
same_end s rest None (Some g) a (inr (tpdu, after, b, step)) = absurd cc
same_end s rest (Some f) None (inl a) b = absurd cc
same_end s rest (Some f) None (inr (tpdu, after, a, step)) b = absurd cc
same_end s rest (Some f) (Some g) (inl a) (inl b) = let same : f ≡ g = cc (a, b) in ap (λ (x : TpFault). let y : Option TpFault = Some x in y) same
same_end s rest (Some f) (Some g) (inl a) (inr (tpdu, after, b, step)) = absurd cc
same_end s rest (Some f) (Some g) (inr (tpdu, after, a, step)) (inl b) = absurd cc
same_end s rest (Some f) (Some g) (inr (tpdu, after, a, step)) (inr (other, others, b, stop)) =
    let one : tpdu ≡ other = ap (λ (x : List ℕ × List ℕ). x.0) (found_is (tpdu, after) (other, others) (sym a ∙ b)) in
    let both : tpdu_at s tpdu ≡ Err g = ap (λ (x : List ℕ). tpdu_at s x) one ∙ stop in
    let same : f ≡ g = cc (step, both) in
    ap (λ (x : TpFault). let y : Option TpFault = Some x in y) same

no_step : (s : State) (rest p after : List ℕ) (x : State × Option Tsdu) (e : Option TpFault) → EndReads s rest e → packet_at rest ≡ Ok (Some (p, after)) → tpdu_at s p ≡ went x → ⊥
no_step s rest p after x None a one step = cc
no_step s rest p after x (Some f) (inl a) one step = cc
no_step s rest p after x (Some f) (inr (tpdu, others, a, stop)) one step =
    let same : tpdu ≡ p = ap (λ (x : List ℕ × List ℕ). x.0) (found_is (tpdu, others) (p, after) (sym a ∙ one)) in
    let both : tpdu_at s p ≡ Err f = ap (λ (x : List ℕ). tpdu_at s x) (sym same) ∙ stop in
    cc

one_end : (s t u : State) (octets rest other : List ℕ) (ps qs : List (List ℕ)) (es ds : List Tsdu) (e g : Option TpFault) → IsBytes octets → Ends t rest e → Ends u other g
    → octets ≡ flat_map packet ps ++ rest → AllByRecursion IsTpdu ps → Runs s ps es t → octets ≡ flat_map packet qs ++ other → AllByRecursion IsTpdu qs → Runs s qs ds u
    → (es ≡ ds) × (t ≡ u) × (rest ≡ other) × (e ≡ g)
one_end s t u octets rest other [] [] es ds e g fits a b w all runs v also runs2 =
    let here : EndReads s octets e = end_reads s octets e fits (subst (λ (x : State). Ends x octets e) runs.1 (subst (λ (x : List ℕ). Ends t x e) (sym w) a)) in
    let there : EndReads s octets g = end_reads s octets g fits (subst (λ (x : State). Ends x octets g) runs2.1 (subst (λ (x : List ℕ). Ends u x g) (sym v) b)) in
    (runs.0 ∙ sym runs2.0, runs.1 ∙ sym runs2.1, sym w ∙ v, same_end s octets e g here there)
one_end s t u octets rest other [] (q ∷ qs) es ds e g fits a b w all runs v also (mid, first, others, step, split, runs2) =
    let here : EndReads s octets e = end_reads s octets e fits (subst (λ (x : State). Ends x octets e) runs.1 (subst (λ (x : List ℕ). Ends t x e) (sym w) a)) in
    absurd (no_step s octets q (flat_map packet qs ++ other) (mid, first) e here (first_packet octets q qs other v also.0) step)
one_end s t u octets rest other (p ∷ ps) [] es ds e g fits a b w all (mid, first, others, step, split, runs) v also runs2 =
    let there : EndReads s octets g = end_reads s octets g fits (subst (λ (x : State). Ends x octets g) runs2.1 (subst (λ (x : List ℕ). Ends u x g) (sym v) b)) in
    absurd (no_step s octets p (flat_map packet ps ++ rest) (mid, first) g there (first_packet octets p ps rest w all.0) step)
one_end s t u octets rest other (p ∷ ps) (q ∷ qs) es ds e g fits ends ends2 w all (mid, first, others, step, split, runs) v also (mid2, first2, others2, step2, split2, runs2) =
    let a : packet_at octets ≡ Ok (Some (p, flat_map packet ps ++ rest)) = first_packet octets p ps rest w all.0 in
    let b : packet_at octets ≡ Ok (Some (q, flat_map packet qs ++ other)) = first_packet octets q qs other v also.0 in
    let same = found_is (p, flat_map packet ps ++ rest) (q, flat_map packet qs ++ other) (sym a ∙ b) in
    let one : p ≡ q = ap (λ (x : List ℕ × List ℕ). x.0) same in
    let left : flat_map packet ps ++ rest ≡ flat_map packet qs ++ other = ap (λ (x : List ℕ × List ℕ). x.1) same in
    let went = went_is (mid, first) (mid2, first2) (sym step ∙ ap (λ (x : List ℕ). tpdu_at s x) one ∙ step2) in
    let mids : mid ≡ mid2 = ap (λ (x : State × Option Tsdu). x.0) went in
    let firsts : first ≡ first2 = ap (λ (x : State × Option Tsdu). x.1) went in
    let later = one_end mid t u (flat_map packet ps ++ rest) rest other ps qs others others2 e g (after_fits octets p (flat_map packet ps ++ rest) fits a) ends ends2 refl all.1 runs left also.1 (subst (λ (x : State). Runs x qs others2 u) (sym mids) runs2) in
    (split ∙ ap (λ (x : Option Tsdu). option_to_list x ++ others) firsts ∙ ap (λ (x : List Tsdu). option_to_list first2 ++ x) later.0 ∙ sym split2, later.1, later.2, later.3)

-- A stream stands for one list of gifts, one state and one rest, however it was cut.
pub one_stream : (dialled : Bool) (t u : State) (rest other octets : List ℕ) (es ds : List Tsdu) → StandsAt dialled t rest octets es → StandsAt dialled u other octets ds → (es ≡ ds) × (t ≡ u) × (rest ≡ other)
one_stream dialled t u rest other octets es ds a b =
    let one = one_end (start dialled) t u octets rest other a.takes.tpdus b.takes.tpdus es ds None None a.fits a.partial b.partial a.takes.whole a.takes.each a.takes.runs b.takes.whole b.takes.each b.takes.runs in
    (one.0, one.1, one.2)

abbrev no_fault : Option TpFault
no_fault = None

abbrev some_fault : TpFault → Option TpFault
some_fault x = Some x

-- A stream that is refused is refused for one reason, after one list of gifts.
pub one_refusal : (dialled : Bool) (octets : List ℕ) (es ds : List Tsdu) (f g : TpFault) → IsRefused dialled octets es f → IsRefused dialled octets ds g → (es ≡ ds) × (f ≡ g)
one_refusal dialled octets es ds f g a b =
    let one = one_end (start dialled) a.state b.state octets a.bad b.bad a.takes.tpdus b.takes.tpdus es ds (Some f) (Some g) a.fits a.stops b.stops a.takes.whole a.takes.each a.takes.runs b.takes.whole b.takes.each b.takes.runs in
    let both : some_fault f ≡ some_fault g = one.3 in
    (one.0, cc (both))

-- No object stands for it.
pub never_both : (dialled : Bool) (t : State) (rest octets : List ℕ) (es ds : List Tsdu) (f : TpFault) → StandsAt dialled t rest octets es → IsRefused dialled octets ds f → ⊥
never_both dialled t rest octets es ds f a b =
    let one = one_end (start dialled) t b.state octets rest b.bad a.takes.tpdus b.takes.tpdus es ds None (Some f) a.fits a.partial b.stops a.takes.whole a.takes.each a.takes.runs b.takes.whole b.takes.each b.takes.runs in
    let both : no_fault ≡ some_fault f = one.3 in
    cc

stops_still : (s : State) (rest more : List ℕ) (f : TpFault) → Stops s rest f → Stops s (rest ++ more) f
stops_still s rest more f (inl bad) = inl (stays_bad rest more f bad)
stops_still s rest more f (inr (tpdu, after, is, whole, step)) = inr (tpdu, after ++ more, is, ap (λ (x : List ℕ). x ++ more) whole ∙ append_assoc (packet tpdu) after more, step)

-- And more of it changes nothing.
pub refused_still : (dialled : Bool) (octets more : List ℕ) (es : List Tsdu) (f : TpFault) → IsBytes more → IsRefused dialled octets es f → IsRefused dialled (octets ++ more) es f
refused_still dialled octets more es f fits a = record {
  fits = IsBytes-append octets more a.fits fits;
  state = a.state;
  bad = a.bad ++ more;
  takes = record {
    tpdus = a.takes.tpdus;
    whole = ap (λ (x : List ℕ). x ++ more) a.takes.whole ∙ append_assoc (flat_map packet a.takes.tpdus) a.bad more;
    each = a.takes.each;
    runs = a.takes.runs;
  };
  stops = stops_still a.state a.bad more f a.stops;
}
