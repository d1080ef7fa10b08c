-- Octets that stand for events and those that are refused, objects that were fed, and more octets, by running them.
use Rattle.std.proofs.Common.{◌≡◌, ℕ, List, [], ◌++◌, Option, Some, None, refl, sym, ap, subst, ◌∙◌, append-nil}
use Rattle.std.specs.Prelude.{◌↔◌}
use Rattle.std.specs.Option.{option_map}
use Rattle.std.specs.List.{flat_map}
use Rattle.ber_grammar.specs.Octets.{IsBytes}
use Rattle.ber_grammar.proofs.OctetLaws.{IsBytes-append, IsBytes-back}
use Rattle.tpkt_cotp.specs.Packet.{packet}
use Rattle.osi_stack.specs.declared.cause.Cause.{Cause}
use Rattle.osi_stack.specs.declared.connection.Connection.{Connection}
use Rattle.osi_stack.specs.declared.events.Event.{Event}
use Rattle.osi_stack.specs.declared.fault.StackFault.TheVariants.{Refused}
use Rattle.osi_stack.specs.Going.{stand}
use Rattle.osi_stack.specs.Running.{Came, run, IsRefusedBehind, further, further_from, Keeps}
use Rattle.osi_stack.specs.Standing.{IsAt, StopsAt}
use Rattle.osi_stack.specs.Stream.{Stand, Takes, count_of, StandsAt, IsRefused}
use Rattle.osi_stack.proofs.AnsweredLaws.{stops_still}
use Rattle.osi_stack.proofs.ConnectionLaws.{Takes-none, Takes-then}
use Rattle.osi_stack.proofs.RunLaws.{IsCame, came, run_is}
use Rattle.osi_stack.proofs.StreamLaws.{Ends}

-- ---- streams

pub stands_run : (from t : Stand) (rest octets : List ℕ) (es : List Event) → StandsAt from t rest octets es
    ↔ IsBytes octets × (run from octets ≡ record { events = es; stand = t; rest = rest; cause = None })
stands_run from t rest octets es = (
  λ s. (s.fits, run_is from t octets rest es None s.fits s.takes s.left),
  λ h. let k = subst (IsCame from octets) h.1 (came from octets h.0) in record { fits = h.0; takes = k.0; left = k.1 },
)

pub refused_run : (from : Stand) (octets : List ℕ) (es : List Event) (c : Cause) (n : ℕ) → IsRefused from octets es c n
    ↔ IsBytes octets × ((run from octets).events ≡ es) × ((run from octets).cause ≡ Some c) × (n ≡ count_of octets (run from octets).rest)
refused_run from octets es c n = (there, back)
  where
    x : Came
    x = run from octets

    there : IsRefused from octets es c n
        → IsBytes octets × ((run from octets).events ≡ es) × ((run from octets).cause ≡ Some c) × (n ≡ count_of octets (run from octets).rest)
    there a =
        let h = run_is from a.stand octets a.bad es (Some c) a.fits a.takes (a.on, a.stops) in
        (a.fits, ap (λ (y : Came). y.events) h, ap (λ (y : Came). y.cause) h, a.is_count ∙ ap (λ (y : Came). count_of octets y.rest) (sym h))

    back : IsBytes octets × ((run from octets).events ≡ es) × ((run from octets).cause ≡ Some c) × (n ≡ count_of octets (run from octets).rest)
        → IsRefused from octets es c n
    back (fits, events, cause, count) =
        let k = came from octets fits in
        let ends : Ends (run from octets).stand (run from octets).rest (Some c) = subst (Ends (run from octets).stand (run from octets).rest) cause k.1 in
        record {
          fits = fits;
          stand = (run from octets).stand;
          bad = (run from octets).rest;
          takes = subst (λ (e : List Event). Takes from octets e (run from octets).stand (run from octets).rest) events k.0;
          on = ends.0;
          stops = ends.1;
          is_count = count;
        }

-- ---- objects

pub kept_run : (c : Connection) (from : Stand) (octets : List ℕ) (es : List Event) → IsAt c from octets es
    ↔ IsBytes octets × ((run from octets).events ≡ es) × Keeps c octets (run from octets)
kept_run c from octets es = (there, back)
  where
    there : IsAt c from octets es → IsBytes octets × ((run from octets).events ≡ es) × Keeps c octets (run from octets)
    there (none, s) =
        let h = run_is from (stand c.0) octets s.rest es None s.at.fits s.at.takes s.at.left in
        let same = sym (ap (λ (y : Came). y.stand) h) in
        let left = ap (λ (y : Came). y.rest) h in
        let count = ap (λ (y : Came). count_of octets y.rest) (sym h) in
        (s.at.fits, ap (λ (y : Came). y.events) h, (none, ap (λ (y : Came). y.cause) h, same, λ on. (left ∙ s.held on, s.count on ∙ count)))

    back : IsBytes octets × ((run from octets).events ≡ es) × Keeps c octets (run from octets) → IsAt c from octets es
    back (fits, events, (none, cause, same, keeps)) =
        let k = came from octets fits in
        let x : Came = run from octets in
        let takes = subst (λ (e : List Event). Takes from octets e x.stand x.rest) events k.0 in
        let there = subst (λ (t : Stand). Takes from octets es t x.rest) (sym same) takes in
        let left = subst (λ (t : Stand). Ends t x.rest None) (sym same) (subst (Ends x.stand x.rest) cause k.1) in
        (none, record { rest = x.rest; at = record { fits = fits; takes = there; left = left }; held = λ on. (keeps on).0; count = λ on. (keeps on).1 })

abbrev said : ℕ → ℕ → Cause
said layer code = record { layer = layer; code = code }

pub stopped_run : (from : Stand) (layer code count : ℕ) (octets : List ℕ) (so_far before now : List Event)
    → StopsAt (Refused layer code count) from octets so_far before now ↔ IsRefusedBehind from (Refused layer code count) octets so_far before now
stopped_run from layer code count octets so_far before now = (there, back)
  where
    there : StopsAt (Refused layer code count) from octets so_far before now → IsRefusedBehind from (Refused layer code count) octets so_far before now
    there (more, grew, gave, a) =
        let h = (refused_run from octets (so_far ++ more) (said layer code) count).0 a in
        (h.0, more, grew, h.1, rw (h.2, sym h.3) refl)

    by_cause : (e : Option Cause) → (run from octets).cause ≡ e
        → option_map (λ (c : Cause). Refused c.layer c.code (count_of octets (run from octets).rest)) e ≡ Some (Refused layer code count)
        → ((run from octets).cause ≡ Some (said layer code)) × (count ≡ count_of octets (run from octets).rest)
    by_cause None h same = absurd cc
    by_cause (Some c) h same =
        let layers : layer ≡ c.layer = cc in
        let codes : code ≡ c.code = cc in
        (h ∙ rw (layers, codes) refl, cc (same))

    back : IsRefusedBehind from (Refused layer code count) octets so_far before now → StopsAt (Refused layer code count) from octets so_far before now
    back (fits, more, grew, events, same) =
        let k = came from octets fits in
        let x : Came = run from octets in
        let h = by_cause x.cause refl same in
        let takes = subst (λ (e : List Event). Takes from octets e x.stand x.rest) events k.0 in
        (more, grew, (x.stand, x.rest, takes), (refused_run from octets (so_far ++ more) (said layer code) count).1 (fits, events, h.0, h.1))

-- ---- more octets

with_more : (from t : Stand) (octets more rest : List ℕ) (es : List Event) (e : Option Cause) → IsBytes octets → IsBytes more → Takes from octets es t rest
    → Ends t rest e
    → run from (octets ++ more) ≡ further_from (record { events = es; stand = t; rest = rest; cause = e }) more e
with_more from t octets more rest es None fits bytes takes ends =
    let left : IsBytes (rest ++ more) = IsBytes-append rest more (IsBytes-back (flat_map packet takes.tpdus) rest (subst IsBytes takes.whole fits)) bytes in
    let x : Came = run t (rest ++ more) in
    let k = came t (rest ++ more) left in
    let both : Takes from (octets ++ more) (es ++ x.events) x.stand x.rest = Takes-then from t x.stand octets more rest x.rest es x.events takes k.0 in
    run_is from x.stand (octets ++ more) x.rest (es ++ x.events) x.cause (IsBytes-append octets more fits bytes) both k.1
with_more from t octets more rest es (Some c) fits bytes takes ends =
    let both = Takes-then from t t octets more rest (rest ++ more) es [] takes (Takes-none t t (rest ++ more) (rest ++ more) refl refl) in
    let still = subst (λ (e : List Event). Takes from (octets ++ more) e t (rest ++ more)) (append-nil es) both in
    run_is from t (octets ++ more) (rest ++ more) es (Some c) (IsBytes-append octets more fits bytes) still (ends.0, stops_still t rest more c ends.1)

pub further_run : (from : Stand) (octets more : List ℕ) → IsBytes octets → IsBytes more → run from (octets ++ more) ≡ further (run from octets) more
further_run from octets more fits bytes =
    let x : Came = run from octets in
    let k = came from octets fits in
    with_more from x.stand octets more x.rest x.events x.cause fits bytes k.0 k.1
