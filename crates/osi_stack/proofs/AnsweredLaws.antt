-- Octets stand for events or are refused, and what is refused stays so whatever follows.
use Rattle.std.proofs.Common.{◌≡◌, ℕ, inl, inr, List, ◌++◌, Option, Some, None, refl, ap, ◌∙◌, append_assoc, arith}
use Rattle.std.specs.List.{flat_map}
use Rattle.std.proofs.lemmas.List.{length-append}
use Rattle.ber_grammar.specs.Octets.{IsBytes}
use Rattle.ber_grammar.proofs.OctetLaws.{IsBytes-append}
use Rattle.tpkt_cotp.specs.Packet.{packet}
use Rattle.tpkt_cotp.proofs.PacketLaws.{stays_bad}
use Rattle.osi_stack.specs.declared.caller.Caller.{Caller}
use Rattle.osi_stack.specs.declared.cause.Cause.{Cause}
use Rattle.osi_stack.specs.declared.events.Event.{Event}
use Rattle.osi_stack.specs.declared.fault.StackFault.{StackFault}
use Rattle.osi_stack.specs.declared.fault.StackFault.TheVariants.{Memory, Refused}
use Rattle.osi_stack.specs.declared.upper.Upper.{Upper}
use Rattle.osi_stack.specs.Running.{run}
use Rattle.osi_stack.specs.Sides.{StandsFor, CallsFor}
use Rattle.osi_stack.specs.Standing.{StopsAt, IsAnswered, IsSameRefusal}
use Rattle.osi_stack.specs.Stream.{Stand, called, calling, Takes, count_of, Stops, IsRefused}
use Rattle.osi_stack.proofs.RunLaws.{came}
use Rattle.osi_stack.proofs.StreamLaws.{Ends, one_refusal, never_both}

-- ---- whatever follows

pub stops_still : (s : Stand) (bad more : List ℕ) (c : Cause) → Stops s bad c → Stops s (bad ++ more) c
stops_still s bad more c (inl (f, is, same)) = inl (f, stays_bad bad more f is, same)
stops_still s bad more c (inr (tpdu, behind, is, whole, step)) = inr (tpdu, behind ++ more, is, ap (λ (x : List ℕ). x ++ more) whole ∙ append_assoc (packet tpdu) behind more, step)

count_still : (octets bad more : List ℕ) → count_of octets bad ≡ count_of (octets ++ more) (bad ++ more)
count_still octets bad more = omega (arith, length-append octets more, length-append bad more)

pub still_refused : (from : Stand) (octets more : List ℕ) (es : List Event) (c : Cause) (n : ℕ) → IsBytes more → IsRefused from octets es c n → IsRefused from (octets ++ more) es c n
still_refused from octets more es c n fits a = record {
  fits = IsBytes-append octets more a.fits fits;
  stand = a.stand;
  bad = a.bad ++ more;
  takes = record {
    tpdus = a.takes.tpdus;
    whole = ap (λ (x : List ℕ). x ++ more) a.takes.whole ∙ append_assoc (flat_map packet a.takes.tpdus) a.bad more;
    each = a.takes.each;
    runs = a.takes.runs;
  };
  on = a.on;
  stops = stops_still a.stand a.bad more c a.stops;
  is_count = a.is_count ∙ count_still octets a.bad more;
}

-- ---- one of both

by_end : (from t : Stand) (octets rest : List ℕ) (es : List Event) (e : Option Cause) → IsBytes octets → Takes from octets es t rest → Ends t rest e → IsAnswered from octets
by_end from t octets rest es None fits takes ends = inl (t, rest, es, record { fits = fits; takes = takes; left = ends })
by_end from t octets rest es (Some c) fits takes ends = inr (es, c, count_of octets rest, record { fits = fits; stand = t; bad = rest; takes = takes; on = ends.0; stops = ends.1; is_count = refl })

pub answered : (from : Stand) (octets : List ℕ) → IsBytes octets → IsAnswered from octets
answered from octets fits = let k = came from octets fits in by_end from (run from octets).stand octets (run from octets).rest (run from octets).events (run from octets).cause fits k.0 k.1

-- ---- the two sides

same_refusal : (from : Stand) (octets more : List ℕ) (es so_far before now : List Event) (c : Cause) (n : ℕ) (f : StackFault) → IsBytes more → IsRefused from octets es c n → StopsAt f from (octets ++ more) so_far before now → IsSameRefusal f es c n so_far before now
same_refusal from octets more es so_far before now c n Memory fits a stops = tt
same_refusal from octets more es so_far before now c n (Refused layer code count) fits a (given, grew, gave, refused) =
    let d : Cause = record { layer = layer; code = code } in
    let one = one_refusal from (octets ++ more) (so_far ++ given) es d c count n refused (still_refused from octets more es c n fits a) in
    (given, grew, one.0, ap (λ (x : Cause). x.layer) one.1, ap (λ (x : Cause). x.code) one.1, one.2)

pub upper_same : (octets more : List ℕ) (es so_far before now : List Event) (c : Cause) (n : ℕ) (f : StackFault) → IsBytes more → IsRefused called octets es c n → StopsAt f called (octets ++ more) so_far before now → IsSameRefusal f es c n so_far before now
upper_same octets more es so_far before now c n f fits a stops = same_refusal called octets more es so_far before now c n f fits a stops

pub caller_same : (size : ℕ) (octets more : List ℕ) (es so_far before now : List Event) (c : Cause) (n : ℕ) (f : StackFault) → IsBytes more → IsRefused (calling size) octets es c n → StopsAt f (calling size) (octets ++ more) so_far before now → IsSameRefusal f es c n so_far before now
caller_same size octets more es so_far before now c n f fits a stops = same_refusal (calling size) octets more es so_far before now c n f fits a stops

pub upper_never : (u : Upper) (octets more : List ℕ) (es ds : List Event) (c : Cause) (n : ℕ) → IsBytes more → IsRefused called octets es c n → StandsFor u (octets ++ more) ds → ⊥
upper_never u octets more es ds c n fits a stood = never_both called _ stood.1.rest (octets ++ more) ds es c n stood.1.at (still_refused called octets more es c n fits a)

pub caller_never : (x : Caller) (size : ℕ) (octets more : List ℕ) (es ds : List Event) (c : Cause) (n : ℕ) → IsBytes more → IsRefused (calling size) octets es c n → CallsFor x size (octets ++ more) ds → ⊥
caller_never x size octets more es ds c n fits a stood = never_both (calling size) _ stood.1.rest (octets ++ more) ds es c n stood.1.at (still_refused (calling size) octets more es c n fits a)
