-- A stream is refused where the production that stands next isn't there, and the other way round.
use Rattle.std.proofs.Common.{◌≡◌, ℕ, ◌⊎◌, inl, inr, List, [], ◌∷◌, ◌++◌, Option, Some, None, Result, Ok, Err, refl, sym, ap, subst, ◌∙◌}
use Rattle.std.specs.Prelude.{MatchResult}
use Rattle.std.specs.List.{flat_map, AllByRecursion}
use Rattle.list_laws.proofs.Options.{err_is}
use Rattle.ber_grammar.specs.Octets.{IsBytes}
use Rattle.ber_grammar.specs.Reader.{◌>>=◌, with_fault}
use Rattle.ber_grammar.proofs.OctetLaws.{IsBytes-front, IsBytes-back}
use Rattle.tpkt_cotp.specs.declared.fault.TpFault.{TpFault}
use Rattle.tpkt_cotp.specs.declared.state.State.{State}
use Rattle.tpkt_cotp.specs.declared.tsdus.Tsdu.{Tsdu}
use Rattle.tpkt_cotp.specs.Packet.{packet, IsTpdu, IsBad}
use Rattle.tpkt_cotp.specs.Tpdu.{IsTaken, IsRefusedTpdu, tpdu_at}
use Rattle.tpkt_cotp.proofs.TpduLaws.{tpdu_matches, taken_again, refused_again}
use Rattle.osi_stack.specs.declared.cause.Cause.{Cause}
use Rattle.osi_stack.specs.declared.events.Event.{Event}
use Rattle.osi_stack.specs.declared.phase.Phase.{Phase}
use Rattle.osi_stack.specs.Causes.{of_transport}
use Rattle.osi_stack.specs.Machine.{tsdu_at}
use Rattle.osi_stack.specs.Refusals.{In, IsTsduRefused, IsTpduRefused, SpellsRefusal}
use Rattle.osi_stack.specs.Spelled.{Tells, HasOctets, GoOn}
use Rattle.osi_stack.specs.Stream.{Stand, stand_of, given_at, step_at, Stops, IsRefused}
use Rattle.osi_stack.proofs.ConnectionLaws.{step_refused, step_fails}
use Rattle.osi_stack.proofs.GoesLaws.{taken_octets, all_octets, runs_go, go_runs}
use Rattle.osi_stack.proofs.RefusalLaws.{tsdu_refuses}
use Rattle.osi_stack.proofs.TellsLaws.{tsdu_tells, tsdu_back}
use Rattle.tpkt_cotp.proofs.KeptLaws.{of_packet}

-- ---- a TSDU: one of both

answered_at : (phase : Phase) (tsdu : Tsdu) (r : Result (Phase × Option Event) Cause) → HasOctets tsdu → tsdu_at phase tsdu ≡ r → ((x : Phase × Option Event) × Tells phase tsdu x) ⊎ ((c : Cause) × IsTsduRefused phase tsdu c)
answered_at phase tsdu (Ok x) fits h = inl (x, tsdu_tells phase tsdu x fits h)
answered_at phase tsdu (Err c) fits h = inr (c, (tsdu_refuses phase tsdu fits).tells c h)

pub tsdu_answered : (phase : Phase) (tsdu : Tsdu) → HasOctets tsdu → ((x : Phase × Option Event) × Tells phase tsdu x) ⊎ ((c : Cause) × IsTsduRefused phase tsdu c)
tsdu_answered phase tsdu fits = answered_at phase tsdu (tsdu_at phase tsdu) fits refl

pub one_cause : (phase : Phase) (tsdu : Tsdu) (c d : Cause) → HasOctets tsdu → IsTsduRefused phase tsdu c → IsTsduRefused phase tsdu d → c ≡ d
one_cause phase tsdu c d fits a b = let k = tsdu_refuses phase tsdu fits in err_is {A = Phase × Option Event} c d (sym (k.again c a) ∙ k.again d b)

pub not_both : (phase : Phase) (tsdu : Tsdu) (x : Phase × Option Event) (c : Cause) → HasOctets tsdu → Tells phase tsdu x → IsTsduRefused phase tsdu c → ⊥
not_both phase tsdu x c fits a b = let both = sym (tsdu_back phase tsdu x a) ∙ (tsdu_refuses phase tsdu fits).again c b in cc

-- ---- a TPDU

abbrev Told : State → List ℕ → Result (State × Option Tsdu) TpFault → Type 0
Told s tpdu r = MatchResult r (λ x. IsTaken s tpdu x.0 x.1) (λ f. IsRefusedTpdu s tpdu f)

gift_refused : (s : Stand) (u : State) (tpdu : List ℕ) (given : Option Tsdu) (c : Cause) → IsBytes s.transport.tsdu → IsBytes tpdu → IsTaken s.transport tpdu u given → given_at s.phase (u, given) ≡ Err c → IsTpduRefused s tpdu c
gift_refused s u tpdu None c held fits taken h = absurd cc
gift_refused s u tpdu (Some tsdu) c held fits taken h = inr (u, tsdu, taken, by_result (tsdu_at s.phase tsdu) refl h)
  where
    by_result : (r : Result (Phase × Option Event) Cause) → tsdu_at s.phase tsdu ≡ r → (r >>= λ x. let y : Result (Stand × Option Event) Cause = Ok (stand_of u x) in y) ≡ Err c → IsTsduRefused s.phase tsdu c
    by_result (Ok x) e q = absurd cc
    by_result (Err d) e q = (tsdu_refuses s.phase tsdu (taken_octets s.transport u tpdu (Some tsdu) held fits taken).1).tells c (e ∙ ap (λ (x : Cause). let y : Result (Phase × Option Event) Cause = Err x in y) (err_is {A = Stand × Option Event} d c q))

step_told : (s : Stand) (tpdu : List ℕ) (c : Cause) (r : Result (State × Option Tsdu) TpFault) → IsBytes s.transport.tsdu → IsBytes tpdu → Told s.transport tpdu r → (with_fault of_transport r >>= λ given. given_at s.phase given) ≡ Err c → IsTpduRefused s tpdu c
step_told s tpdu c (Ok (u, given)) held fits told h = gift_refused s u tpdu given c held fits told h
step_told s tpdu c (Err f) held fits told h = inl (f, told, sym (err_is {A = Stand × Option Event} (of_transport f) c h))

step_tells : (s : Stand) (tpdu : List ℕ) (c : Cause) → IsBytes s.transport.tsdu → IsBytes tpdu → step_at s tpdu ≡ Err c → IsTpduRefused s tpdu c
unfolding step_at
step_tells s tpdu c held fits h = step_told s tpdu c (tpdu_at s.transport tpdu) held fits (tpdu_matches s.transport tpdu) h

step_again : (s : Stand) (tpdu : List ℕ) (c : Cause) → IsBytes s.transport.tsdu → IsBytes tpdu → IsTpduRefused s tpdu c → step_at s tpdu ≡ Err c
step_again s tpdu c held fits (inl (f, bad, same)) = rw same (step_refused s tpdu f (refused_again s.transport tpdu f bad))
step_again s tpdu c held fits (inr (t, tsdu, taken, bad)) =
    step_fails s t tpdu (Some tsdu) c (taken_again s.transport t tpdu (Some tsdu) taken) ((tsdu_refuses s.phase tsdu (taken_octets s.transport t tpdu (Some tsdu) held fits taken).1).again c bad)

-- ---- a stream

-- what is open after TPDUs are octets
go_octets : (s t : Stand) (tpdus : List (List ℕ)) (es : List Event) → IsBytes s.transport.tsdu → AllByRecursion IsBytes tpdus → GoOn s tpdus es t → IsBytes t.transport.tsdu
go_octets s t [] es held fits go = subst (λ (x : Stand). IsBytes x.transport.tsdu) (sym go.1) held
go_octets s t (p ∷ ps) es held fits (on, mid, first, others, (given, taken, tells), split, go) = go_octets mid t ps others (taken_octets s.transport mid.transport p given held fits.0 taken).0 fits.1 go

bad_octets : (octets bad : List ℕ) (tpdus : List (List ℕ)) → IsBytes octets → octets ≡ flat_map packet tpdus ++ bad → AllByRecursion IsBytes tpdus × IsBytes bad
bad_octets octets bad tpdus fits whole =
    let all : IsBytes (flat_map packet tpdus ++ bad) = subst IsBytes whole fits in
    (all_octets tpdus (IsBytes-front (flat_map packet tpdus) bad all), IsBytes-back (flat_map packet tpdus) bad all)

first_octets : (bad tpdu more : List ℕ) → IsBytes bad → bad ≡ packet tpdu ++ more → IsBytes tpdu
first_octets bad tpdu more fits whole = of_packet tpdu (IsBytes-front (packet tpdu) more (subst IsBytes whole fits))

pub refusal_spells : (from : Stand) (octets : List ℕ) (es : List Event) (c : Cause) (n : ℕ) → IsBytes from.transport.tsdu → IsRefused from octets es c n → SpellsRefusal from octets es c n
refusal_spells from octets es c n held a =
    let bytes = bad_octets octets a.bad a.takes.tpdus a.fits a.takes.whole in
    let go = runs_go from a.stand a.takes.tpdus es held bytes.0 a.takes.runs in
    record { fits = a.fits; stand = a.stand; bad = a.bad; tpdus = a.takes.tpdus; whole = a.takes.whole; each = a.takes.each; go = go; on = a.on; stops = stops a.stops (go_octets from a.stand a.takes.tpdus es held bytes.0 go) bytes.1; is_count = a.is_count }
  where
    stops : Stops a.stand a.bad c → IsBytes a.stand.transport.tsdu → IsBytes a.bad → In of_transport (IsBad a.bad) c ⊎ ((tpdu more : List ℕ) × IsTpdu tpdu × (a.bad ≡ packet tpdu ++ more) × IsTpduRefused a.stand tpdu c)
    stops (inl (f, bad, same)) there fits = inl (f, bad, same)
    stops (inr (tpdu, more, is, whole, step)) there fits = inr (tpdu, more, is, whole, step_tells a.stand tpdu c there (first_octets a.bad tpdu more fits whole) step)

pub spelled_refuses : (from : Stand) (octets : List ℕ) (es : List Event) (c : Cause) (n : ℕ) → IsBytes from.transport.tsdu → SpellsRefusal from octets es c n → IsRefused from octets es c n
spelled_refuses from octets es c n held a =
    let bytes = bad_octets octets a.bad a.tpdus a.fits a.whole in
    record { fits = a.fits; stand = a.stand; bad = a.bad; takes = record { tpdus = a.tpdus; whole = a.whole; each = a.each; runs = go_runs from a.stand a.tpdus es a.go }; on = a.on; stops = stops a.stops (go_octets from a.stand a.tpdus es held bytes.0 a.go) bytes.1; is_count = a.is_count }
  where
    stops : In of_transport (IsBad a.bad) c ⊎ ((tpdu more : List ℕ) × IsTpdu tpdu × (a.bad ≡ packet tpdu ++ more) × IsTpduRefused a.stand tpdu c) → IsBytes a.stand.transport.tsdu → IsBytes a.bad → Stops a.stand a.bad c
    stops (inl (f, bad, same)) there fits = inl (f, bad, same)
    stops (inr (tpdu, more, is, whole, refused)) there fits = inr (tpdu, more, is, whole, step_again a.stand tpdu c there (first_octets a.bad tpdu more fits whole) refused)
