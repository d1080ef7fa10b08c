-- No spelling of a value is shorter than the one that is written.
use Rattle.std.proofs.Common.{◌≡◌, ℕ, ◌-◌, ◌*◌, ◌/◌, ◌%◌, ◌^◌, ◌<◌, ◌≤◌, Bool, List, [], ◌∷◌, ◌++◌, length, ap, subst, arith}
use Rattle.std.specs.Prelude.{ℤ, pos, negsuc, if◌then◌else◌}
use Rattle.std.specs.Int.{w16, w32, to_be_bytes}
use Rattle.std.proofs.lemmas.List.{length-append}
use Rattle.ber_grammar.specs.Octets.{IsBytes}
use Rattle.ber_grammar.specs.Element.{Element, Spells, IsRow}
use Rattle.ber_grammar.specs.Content.{IsBoolean, IsInt}
use Rattle.ber_grammar.proofs.OctetLaws.{IsBytes-front, IsBytes-back, Spells-bytes, Spells-below}
use Rattle.ber_write.specs.Minimal.{octets_of, IsWord, int_octets, uint_octets}
use Rattle.ber_write.specs.BitString.{bit_octets}
use Rattle.ber_write.proofs.ElementLaws.{is_minimal}
use Rattle.ber_write.proofs.SameLaws.{length_is_field}
use Rattle.ber_write.proofs.BitLaws.{bits_as_long, length_of_bit_octets}
use Rattle.ber_write.proofs.ShortestLaws.{int_shortest, uint_shortest}
use Rattle.ber_write.proofs.LengthLaws.{length_grows, octets_grow}
use Rattle.sv_base.specs.Tree.{Plain, Seen, Row, plain, structure, none, more, truth, int, uint, bits, time, stamp, text, octets, other}
use Rattle.sv_base.specs.Data.{length_field, data_plain, data_seen, data_row}
use Rattle.sv_base.specs.Depth.{IsNotOther, SeenHasNoOther, RowHasNoOther}
use Rattle.mms_data.specs.Grammar.{IsPlain, IsData, AreData}
use Rattle.mms_data.proofs.MinimalLaws.{octets-element, bits_written, word_written, uint_written}

-- ---- a shorter content makes a shorter element

pub field_grows : (m n : ℕ) → m ≤ n → n < 2 ^ 32 → length (length_field m) ≤ length (length_field n)
field_grows m n le small = omega (arith, ap (λ (o : List ℕ). length o) (length_is_field m (omega (arith, le, small))), ap (λ (o : List ℕ). length o) (length_is_field n small), length_grows m n le)

-- the element that is written of a content that is no longer
shorter : (tag : ℕ) (content made input : List ℕ) (e : Element) → IsBytes input → Spells input e → e.tag ≡ tag → octets_of tag content ≡ made → length content ≤ length e.content → length made ≤ length input
shorter tag content made input e fits s same is le =
    let least : length (octets_of tag e.content) ≤ length input = subst (λ (t : ℕ). length (octets_of t e.content) ≤ length input) same (is_minimal input e fits s).0 in
    omega (arith, octets_grow tag content e.content le, least, ap (λ (o : List ℕ). length o) is)

-- ---- values

boolean_some : (content : List ℕ) (b : Bool) → IsBoolean content b → 1 ≤ length content
boolean_some [] b h = absurd h
boolean_some (a ∷ rest) b h = omega arith

is_word : (content : List ℕ) (v : ℤ) → IsInt content v → IsWord v
is_word [] v h = absurd h
is_word (a ∷ rest) (pos n) h = h.3
is_word (a ∷ rest) (negsuc n) h = h.3

few_bits : (bs : List Bool) (content : List ℕ) → length content < 2 ^ 32 → length content ≡ length (bit_octets bs) → length bs ≤ 8 * (2 ^ 32 - 2)
few_bits bs content small e = omega (arith, small, e, length_of_bit_octets bs)

plain_shortest : (octets : List ℕ) (e : Element) (p : Plain) → IsBytes octets → Spells octets e → IsPlain p e → IsNotOther p → length (data_plain p) ≤ length octets
plain_shortest os e (truth b) fits s h known = shorter 131 ((if b then 255 else 0) ∷ []) _ os e fits s h.0 (octets-element 131 ((if b then 255 else 0) ∷ []) (omega arith) (omega arith)) (boolean_some e.content b h.1)
plain_shortest os e (bits bs) fits s h known =
    let same = bits_as_long e.content bs h.1 in
    shorter 132 (bit_octets bs) _ os e fits s h.0 (bits_written bs (few_bits bs e.content (Spells-below os e fits s) same)) (omega (arith, same))
plain_shortest os e (int z) fits s h known = shorter 133 (int_octets z) _ os e fits s h.0 (word_written z (is_word e.content z h.1)) (int_shortest e.content z (Spells-bytes os e fits s) h.1).0
plain_shortest os e (uint n) fits s h known = shorter 134 (uint_octets n) _ os e fits s h.0 (uint_written n) (uint_shortest e.content n (Spells-bytes os e fits s) h.1).0
plain_shortest os e (octets o) fits s h known =
    let same = ap (λ (x : List ℕ). length x) h.1 in
    shorter 137 o _ os e fits s h.0 (octets-element 137 o (omega arith) (omega (arith, same, Spells-below os e fits s))) (omega (arith, same))
plain_shortest os e (text t) fits s h known =
    let same = ap (λ (x : List ℕ). length x) h.1.0 in
    shorter 138 t _ os e fits s h.0 (octets-element 138 t (omega arith) (omega (arith, same, Spells-below os e fits s))) (omega (arith, same))
plain_shortest os e (stamp ms days) fits s h known = shorter 140 (to_be_bytes w32 ms ++ to_be_bytes w16 days) _ os e fits s h.0 (octets-element 140 (to_be_bytes w32 ms ++ to_be_bytes w16 days) (omega arith) (omega arith)) (omega (arith, h.1.0))
plain_shortest os e (time secs frac quality) fits s h known =
    let content = to_be_bytes w32 secs ++ ((frac / 65536) ∷ (frac / 256 % 256) ∷ (frac % 256) ∷ quality ∷ []) in
    shorter 145 content _ os e fits s h.0 (octets-element 145 content (omega arith) (omega arith)) (omega (arith, h.1.0))
plain_shortest os e other fits s h known = absurd known

mutual
  pub shortest : (octets : List ℕ) (e : Element) (s : Seen) → IsBytes octets → Spells octets e → IsData s e → SeenHasNoOther s → length (data_seen s) ≤ length octets
  shortest os e (plain p) fits s h known = plain_shortest os e p fits s h known
  shortest os e (structure r) fits s h known =
      let le = row_shortest e.content h.1 r (Spells-bytes os e fits s) h.2 h.3 known in
      shorter 162 (data_row r) _ os e fits s h.0 (octets-element 162 (data_row r) (omega arith) (omega (arith, le, Spells-below os e fits s))) le

  row_shortest : (content : List ℕ) (es : List Element) (r : Row) → IsBytes content → IsRow content es → AreData r es → RowHasNoOther r → length (data_row r) ≤ length content
  row_shortest content [] none fits row are known = omega arith
  row_shortest content (e ∷ es) none fits row are known = absurd are
  row_shortest content [] (more s r) fits row are known = absurd are
  row_shortest content (e ∷ es) (more s r) fits (front, rest, spelled, p, row) are known =
      let whole : IsBytes (front ++ rest) = subst IsBytes p fits in
      let first = shortest front e s (IsBytes-front front rest whole) spelled are.0 known.0 in
      let others = row_shortest rest es r (IsBytes-back front rest whole) row are.1 known.1 in
      omega (arith, first, others, length-append (data_seen s) (data_row r), length-append front rest, ap (λ (x : List ℕ). length x) p)
