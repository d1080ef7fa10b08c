-- No octets that say the same are fewer than those that are written.
use Rattle.std.proofs.Common.{◌≡◌, ℕ, ◌<◌, ◌≤◌, ◌^◌, List, ◌++◌, length, refl, sym, ap, subst, arith}
use Rattle.std.proofs.lemmas.List.{length-append}
use Rattle.ber_grammar.specs.Octets.{IsBytes}
use Rattle.ber_grammar.specs.Element.{Begins}
use Rattle.ber_grammar.proofs.OctetLaws.{IsBytes-front, IsBytes-back, Spells-bytes}
use Rattle.ber_write.specs.Minimal.{octets_of, uint_octets, written, CanBeTag}
use Rattle.ber_write.proofs.ElementLaws.{is_spelling}
use Rattle.ber_write.proofs.NumberLaws.{uint_octets-spell}
use Rattle.ber_write.proofs.ShortestLaws.{uint_shortest}
use Rattle.ber_write.proofs.LengthLaws.{octets_longer}
use Rattle.ber_write.proofs.WrittenLaws.{element_least}
use Rattle.sv_base.specs.Data.{data_seen}
use Rattle.mms_data.proofs.FitLaws.{seen_fits}
use Rattle.mms_data.proofs.ReadBackLaws.{followed}
use Rattle.mms_data.proofs.ShortestLaws.{shortest as data_shortest}
use Rattle.codec_laws.specs.Said.{Said, nothing, holds, counts, groups, carries, copies, IsSaid, IsMinimal, shortest, CanBeSaid}

-- ---- the fewest octets

-- and then the others
both_least : (front rest input one more : List ℕ) → input ≡ front ++ rest → length one ≤ length front → length more ≤ length rest → length (one ++ more) ≤ length input
both_least front rest input one more at a b = omega (arith, ap length at, length-append front rest, length-append one more, a, b)

pub least : (input : List ℕ) (said : Said) → IsBytes input → CanBeSaid said → IsSaid input said → length (shortest said) ≤ length input
least input nothing fits can h = omega arith
least input (holds tag content others) fits can (e, rest, (front, spelled, at), is_tag, is, row) =
    let whole : IsBytes (front ++ rest) = subst IsBytes at fits in
    let one = element_least tag front content e (IsBytes-front front rest whole) spelled is_tag (omega (arith, ap length is)) in
    both_least front rest input (octets_of tag content) (shortest others) at one (least rest others (IsBytes-back front rest whole) can.1 row)
least input (counts tag n others) fits can (e, rest, (front, spelled, at), is_tag, is, row) =
    let whole : IsBytes (front ++ rest) = subst IsBytes at fits in
    let bytes = IsBytes-front front rest whole in
    let one = element_least tag front (uint_octets n) e bytes spelled is_tag (uint_shortest e.content n (Spells-bytes front e bytes spelled) is).0 in
    both_least front rest input (octets_of tag (uint_octets n)) (shortest others) at one (least rest others (IsBytes-back front rest whole) can.2 row)
least input (groups tag inner others) fits can (e, rest, (front, spelled, at), is_tag, is, row) =
    let whole : IsBytes (front ++ rest) = subst IsBytes at fits in
    let bytes = IsBytes-front front rest whole in
    let one = element_least tag front (shortest inner) e bytes spelled is_tag (least e.content inner (Spells-bytes front e bytes spelled) can.1 is) in
    both_least front rest input (octets_of tag (shortest inner)) (shortest others) at one (least rest others (IsBytes-back front rest whole) can.2 row)
least input (carries s others) fits can (e, rest, (front, spelled, at), is, row) =
    let whole : IsBytes (front ++ rest) = subst IsBytes at fits in
    both_least front rest input (data_seen s) (shortest others) at (data_shortest front e s (IsBytes-front front rest whole) spelled is can.0) (least rest others (IsBytes-back front rest whole) can.4 row)
least input (copies given others) fits can (rest, at, row) =
    both_least given rest input given (shortest others) at (omega arith) (least rest others (IsBytes-back given rest (subst IsBytes at fits)) can row)

-- ---- what is written says it

begun : (tag : ℕ) (content rest : List ℕ) → CanBeTag tag → length (octets_of tag content ++ rest) < 2 ^ 32 → Begins (octets_of tag content ++ rest) (written tag content) rest
begun tag content rest can small = (octets_of tag content, is_spelling tag content can (omega (arith, small, octets_longer tag content, length-append (octets_of tag content) rest)), refl)

behind : (one more : List ℕ) → length (one ++ more) < 2 ^ 32 → length more < 2 ^ 32
behind one more small = omega (arith, small, length-append one more)

within : (tag : ℕ) (content rest : List ℕ) → length (octets_of tag content ++ rest) < 2 ^ 32 → length content < 2 ^ 32
within tag content rest small = omega (arith, small, octets_longer tag content, length-append (octets_of tag content) rest)

pub says : (said : Said) → CanBeSaid said → length (shortest said) < 2 ^ 32 → IsSaid (shortest said) said
says nothing can small = refl
says (holds tag content others) can small =
    (written tag content, shortest others, begun tag content (shortest others) can.0 small, refl, refl, says others can.1 (behind (octets_of tag content) (shortest others) small))
says (counts tag n others) can small =
    (written tag (uint_octets n), shortest others, begun tag (uint_octets n) (shortest others) can.0 small, refl, (uint_octets-spell n can.1).0, says others can.2 (behind (octets_of tag (uint_octets n)) (shortest others) small))
says (groups tag inner others) can small =
    let inside = says inner can.1 (within tag (shortest inner) (shortest others) small) in
    (written tag (shortest inner), shortest others, begun tag (shortest inner) (shortest others) can.0 small, refl, inside, says others can.2 (behind (octets_of tag (shortest inner)) (shortest others) small))
says (carries s others) can small =
    let fits = seen_fits s (omega (arith, small, length-append (data_seen s) (shortest others))) can.2 in
    let one = followed s (shortest others) can.0 can.1 fits can.3 in
    (one.0, shortest others, one.1, one.2.0, says others can.4 (behind (data_seen s) (shortest others) small))
says (copies given others) can small = (shortest others, refl, says others can (behind given (shortest others) small))

pub minimal : (pdu : List ℕ) (said : Said) → pdu ≡ shortest said → CanBeSaid said → length pdu < 2 ^ 32 → IsMinimal pdu said
minimal pdu said is can small = record {
  is_said = subst (λ (x : List ℕ). IsSaid x said) (sym is) (says said can (subst (λ (x : List ℕ). length x < 2 ^ 32) is small));
  least = λ octets fits h. omega (arith, ap length is, least octets said fits can h);
}
