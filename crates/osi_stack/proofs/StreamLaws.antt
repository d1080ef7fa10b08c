-- A stream comes to one list of events, or is refused for one cause after one list.
use Rattle.std.proofs.Common.{◌≡◌, ℕ, Bool, true, false, List, [], ◌∷◌, ◌++◌, Option, Some, None, Result, Ok, Err, ◌⊎◌, inl, inr, refl, sym, ap, subst, ◌∙◌}
use Rattle.std.specs.Option.{option_to_list}
use Rattle.std.specs.List.{flat_map, AllByRecursion}
use Rattle.tpkt_cotp.specs.declared.fault.TpFault.{TpFault}
use Rattle.ber_grammar.specs.Octets.{IsBytes}
use Rattle.tpkt_cotp.specs.Packet.{packet, IsTpdu, IsPartial, packet_at}
use Rattle.tpkt_cotp.proofs.PacketLaws.{packet_again, bad_again, partial_again, found_is}
use Rattle.tpkt_cotp.proofs.StreamLaws.{after_fits, first_packet}
use Rattle.osi_stack.specs.declared.events.Event.{Event}
use Rattle.osi_stack.specs.declared.cause.Cause.{Cause}
use Rattle.osi_stack.specs.Causes.{of_transport}
use Rattle.osi_stack.specs.Stream.{Stand, has_ended, step_at, Runs, count_of, StandsAt, Stops, IsRefused}

-- how a stream ends: with the beginning of a TPKT, after the end with anything, or refused
abbrev pub Ends : Stand → List ℕ → Option Cause → Type 0
Ends s rest None = ((has_ended s.phase ≡ false) × IsPartial rest) ⊎ (has_ended s.phase ≡ true)
Ends s rest (Some c) = (has_ended s.phase ≡ false) × Stops s rest c

-- the next TPKT is none, or it is refused
abbrev Broken : Stand → List ℕ → Cause → Type 0
Broken s rest c = ((f : TpFault) × (packet_at rest ≡ Err f) × (c ≡ of_transport f)) ⊎ ((tpdu after : List ℕ) × (packet_at rest ≡ Ok (Some (tpdu, after))) × (step_at s tpdu ≡ Err c))

abbrev EndReads : Stand → List ℕ → Option Cause → Type 0
EndReads s rest None = ((has_ended s.phase ≡ false) × (packet_at rest ≡ Ok None)) ⊎ (has_ended s.phase ≡ true)
EndReads s rest (Some c) = (has_ended s.phase ≡ false) × Broken s rest c

end_reads : (s : Stand) (rest : List ℕ) (e : Option Cause) → IsBytes rest → Ends s rest e → EndReads s rest e
end_reads s rest None fits (inl (on, part)) = inl (on, partial_again rest fits part)
end_reads s rest None fits (inr over) = inr over
end_reads s rest (Some c) fits (on, inl (f, bad, is)) = (on, inl (f, bad_again rest f bad, is))
end_reads s rest (Some c) fits (on, inr (tpdu, more, is, whole, step)) = (on, inr (tpdu, more, ap packet_at whole ∙ packet_again tpdu more is, step))

abbrev cause_of : Cause → Option Cause
cause_of c = Some c

abbrev no_cause : Option Cause
no_cause = None

on_and_over : (b : Bool) → b ≡ false → b ≡ true → ⊥
on_and_over b on over = cc

same_break : (s : Stand) (rest : List ℕ) (c d : Cause) → Broken s rest c → Broken s rest d → c ≡ d
same_break s rest c d (inl (f, a, p)) (inl (g, b, q)) = let same : f ≡ g = cc (a, b) in p ∙ ap of_transport same ∙ sym q
same_break s rest c d (inl (f, a, p)) (inr (tpdu, after, b, step)) = absurd cc
same_break s rest c d (inr (tpdu, after, a, step)) (inl (g, b, q)) = absurd cc
same_break s rest c d (inr (tpdu, after, a, step)) (inr (other, others, b, stop)) =
    let one : tpdu ≡ other = ap (λ (x : List ℕ × List ℕ). x.0) (found_is (tpdu, after) (other, others) (sym a ∙ b)) in
    let both : step_at s tpdu ≡ Err d = ap (λ (x : List ℕ). step_at s x) one ∙ stop in
    cc (step, both)

no_break : (s : Stand) (rest : List ℕ) (c : Cause) → packet_at rest ≡ Ok None → Broken s rest c → ⊥
no_break s rest c none (inl (f, a, p)) = cc
no_break s rest c none (inr (tpdu, after, a, step)) = cc

same_end : (s : Stand) (rest : List ℕ) (e g : Option Cause) → EndReads s rest e → EndReads s rest g → e ≡ g
same_end s rest None None a b = refl
same_end s rest None (Some d) (inl (on, none)) (still, b) = absurd (no_break s rest d none b)
same_end s rest None (Some d) (inr over) (still, b) = absurd (on_and_over (has_ended s.phase) still over)
same_end s rest (Some c) None (still, a) (inl (on, none)) = absurd (no_break s rest c none a)
same_end s rest (Some c) None (still, a) (inr over) = absurd (on_and_over (has_ended s.phase) still over)
same_end s rest (Some c) (Some d) (on, a) (still, b) = ap cause_of (same_break s rest c d a b)

abbrev went : Stand × Option Event → Result (Stand × Option Event) Cause
went x = Ok x

went_is : (x y : Stand × Option Event) → went x ≡ went y → x ≡ y
went_is x y e = cc

no_step : (s : Stand) (rest p after : List ℕ) (x : Stand × Option Event) (e : Option Cause) → EndReads s rest e → has_ended s.phase ≡ false → packet_at rest ≡ Ok (Some (p, after)) → step_at s p ≡ went x → ⊥
no_step s rest p after x None (inl (on, none)) still one step = cc
no_step s rest p after x None (inr over) still one step = on_and_over (has_ended s.phase) still over
no_step s rest p after x (Some c) (on, inl (f, a, q)) still one step = cc
no_step s rest p after x (Some c) (on, inr (tpdu, others, a, stop)) still one step =
    let same : tpdu ≡ p = ap (λ (x : List ℕ × List ℕ). x.0) (found_is (tpdu, others) (p, after) (sym a ∙ one)) in
    let both : step_at s p ≡ Err c = ap (λ (x : List ℕ). step_at s x) (sym same) ∙ stop in
    cc

pub one_end : (s t u : Stand) (octets rest other : List ℕ) (ps qs : List (List ℕ)) (es ds : List Event) (e g : Option Cause) → IsBytes octets → Ends t rest e → Ends u other g
    → octets ≡ flat_map packet ps ++ rest → AllByRecursion IsTpdu ps → Runs s ps es t → octets ≡ flat_map packet qs ++ other → AllByRecursion IsTpdu qs → Runs s qs ds u
    → (es ≡ ds) × (t ≡ u) × (rest ≡ other) × (e ≡ g)
one_end s t u octets rest other [] [] es ds e g fits a b w all runs v also runs2 =
    let here : EndReads s octets e = end_reads s octets e fits (subst (λ (x : Stand). Ends x octets e) runs.1 (subst (λ (x : List ℕ). Ends t x e) (sym w) a)) in
    let there : EndReads s octets g = end_reads s octets g fits (subst (λ (x : Stand). Ends x octets g) runs2.1 (subst (λ (x : List ℕ). Ends u x g) (sym v) b)) in
    (runs.0 ∙ sym runs2.0, runs.1 ∙ sym runs2.1, sym w ∙ v, same_end s octets e g here there)
one_end s t u octets rest other [] (q ∷ qs) es ds e g fits a b w all runs v also (on, mid, first, others, step, split, runs2) =
    let here : EndReads s octets e = end_reads s octets e fits (subst (λ (x : Stand). Ends x octets e) runs.1 (subst (λ (x : List ℕ). Ends t x e) (sym w) a)) in
    absurd (no_step s octets q (flat_map packet qs ++ other) (mid, first) e here on (first_packet octets q qs other v also.0) step)
one_end s t u octets rest other (p ∷ ps) [] es ds e g fits a b w all (on, mid, first, others, step, split, runs) v also runs2 =
    let there : EndReads s octets g = end_reads s octets g fits (subst (λ (x : Stand). Ends x octets g) runs2.1 (subst (λ (x : List ℕ). Ends u x g) (sym v) b)) in
    absurd (no_step s octets p (flat_map packet ps ++ rest) (mid, first) g there on (first_packet octets p ps rest w all.0) step)
one_end s t u octets rest other (p ∷ ps) (q ∷ qs) es ds e g fits ends ends2 w all (on, mid, first, others, step, split, runs) v also (still, mid2, first2, others2, step2, split2, runs2) =
    let a : packet_at octets ≡ Ok (Some (p, flat_map packet ps ++ rest)) = first_packet octets p ps rest w all.0 in
    let b : packet_at octets ≡ Ok (Some (q, flat_map packet qs ++ other)) = first_packet octets q qs other v also.0 in
    let same = found_is (p, flat_map packet ps ++ rest) (q, flat_map packet qs ++ other) (sym a ∙ b) in
    let one : p ≡ q = ap (λ (x : List ℕ × List ℕ). x.0) same in
    let left : flat_map packet ps ++ rest ≡ flat_map packet qs ++ other = ap (λ (x : List ℕ × List ℕ). x.1) same in
    let went = went_is (mid, first) (mid2, first2) (sym step ∙ ap (λ (x : List ℕ). step_at s x) one ∙ step2) in
    let mids : mid ≡ mid2 = ap (λ (x : Stand × Option Event). x.0) went in
    let firsts : first ≡ first2 = ap (λ (x : Stand × Option Event). x.1) went in
    let later = one_end mid t u (flat_map packet ps ++ rest) rest other ps qs others others2 e g (after_fits octets p (flat_map packet ps ++ rest) fits a) ends ends2 refl all.1 runs left also.1 (subst (λ (x : Stand). Runs x qs others2 u) (sym mids) runs2) in
    (split ∙ ap (λ (x : Option Event). option_to_list x ++ others) firsts ∙ ap (λ (x : List Event). option_to_list first2 ++ x) later.0 ∙ sym split2, later.1, later.2, later.3)

pub one_stream : (from t u : Stand) (rest other octets : List ℕ) (es ds : List Event) → StandsAt from t rest octets es → StandsAt from u other octets ds → (es ≡ ds) × (t ≡ u) × (rest ≡ other)
one_stream from t u rest other octets es ds a b =
    let one = one_end from t u octets rest other a.takes.tpdus b.takes.tpdus es ds None None a.fits a.left b.left a.takes.whole a.takes.each a.takes.runs b.takes.whole b.takes.each b.takes.runs in
    (one.0, one.1, one.2)

pub one_refusal : (from : Stand) (octets : List ℕ) (es ds : List Event) (c d : Cause) (m n : ℕ) → IsRefused from octets es c m → IsRefused from octets ds d n → (es ≡ ds) × (c ≡ d) × (m ≡ n)
one_refusal from octets es ds c d m n a b =
    let one = one_end from a.stand b.stand octets a.bad b.bad a.takes.tpdus b.takes.tpdus es ds (Some c) (Some d) a.fits (a.on, a.stops) (b.on, b.stops) a.takes.whole a.takes.each a.takes.runs b.takes.whole b.takes.each b.takes.runs in
    let both : cause_of c ≡ cause_of d = one.3 in
    (one.0, cc (both), a.is_count ∙ ap (λ (x : List ℕ). count_of octets x) one.2 ∙ sym b.is_count)

pub never_both : (from t : Stand) (rest octets : List ℕ) (es ds : List Event) (c : Cause) (n : ℕ) → StandsAt from t rest octets es → IsRefused from octets ds c n → ⊥
never_both from t rest octets es ds c n a b =
    let one = one_end from t b.stand octets rest b.bad a.takes.tpdus b.takes.tpdus es ds None (Some c) a.fits a.left (b.on, b.stops) a.takes.whole a.takes.each a.takes.runs b.takes.whole b.takes.each b.takes.runs in
    let both : no_cause ≡ cause_of c = one.3 in
    cc
