-- What is written is read back.
use Rattle.std.proofs.Common.{◌≡◌, ℕ, ◌/◌, ◌%◌, ◌^◌, ◌<◌, ◌≤◌, max, Bool, true, false, List, [], ◌∷◌, ◌++◌, length, refl, sym, subst, ◌∙◌, arith}
use Rattle.std.specs.Prelude.{if◌then◌else◌}
use Rattle.std.specs.Int.{w16, w32, to_be_bytes}
use Rattle.std.proofs.lemmas.Nat.{from_be_bytes-to_be_bytes_2, from_be_bytes-to_be_bytes_4}
use Rattle.list_laws.proofs.Options.{ok_is}
use Rattle.ber_grammar.specs.Octets.{IsBytes, big_endian}
use Rattle.ber_grammar.specs.Element.{Element, Spells, Begins, IsRow}
use Rattle.ber_grammar.specs.Content.{IsBoolean}
use Rattle.ber_write.specs.Minimal.{octets_of, written, CanBeTag, int_octets, uint_octets}
use Rattle.ber_write.specs.BitString.{bit_octets}
use Rattle.ber_write.proofs.ElementLaws.{is_spelling}
use Rattle.ber_write.proofs.NumberLaws.{int_octets-spell, uint_octets-spell, length-int_octets, length-uint_octets}
use Rattle.ber_write.proofs.BitLaws.{bit_octets-spell, length_of_bit_octets}
use Rattle.sv_base.specs.Tree.{Plain, Seen, Row, plain, structure, none, more, truth, int, uint, bits, time, stamp, text, octets, other}
use Rattle.sv_base.specs.Data.{element, data_plain, data_seen, data_row}
use Rattle.sv_base.specs.Depth.{depth_seen, IsNotOther, SeenHasNoOther, RowHasNoOther}
use Rattle.mms_data.specs.declared.fault.DataFault.{DataFault}
use Rattle.mms_data.specs.Grammar.{IsPlain, IsData, AreData, IsWithin, IsSpelled}
use Rattle.mms_data.specs.Writable.{FitsPlain, FitsSeen, FitsRow, IsOfTypes, SeenIsOfTypes, RowIsOfTypes}
use Rattle.mms_data.proofs.MinimalLaws.{octets-element, bits_written, word_written, uint_written}
use Rattle.mms_data.proofs.GrammarLaws.{data_again}

boolean_spells : (b : Bool) → IsBoolean ((if b then 255 else 0) ∷ []) b
boolean_spells true = λ e. omega (arith, e)
boolean_spells false = refl

pub big_endian-32 : (n : ℕ) → n < 2 ^ 32 → n ≡ big_endian (to_be_bytes w32 n)
big_endian-32 n lt = omega (arith, from_be_bytes-to_be_bytes_4 n lt)

pub big_endian-16 : (n : ℕ) → n < 2 ^ 16 → n ≡ big_endian (to_be_bytes w16 n)
big_endian-16 n lt = omega (arith, from_be_bytes-to_be_bytes_2 n lt)

fraction : (n : ℕ) → n < 2 ^ 24 → n ≡ big_endian (n / 65536 ∷ n / 256 % 256 ∷ n % 256 ∷ [])
fraction n lt = omega (arith, lt)

spells_as : (tag : ℕ) (content made : List ℕ) → CanBeTag tag → length content < 2 ^ 32 → octets_of tag content ≡ made → Spells made (written tag content)
spells_as tag content made is_tag small e = subst (λ (o : List ℕ). Spells o (written tag content)) e (is_spelling tag content is_tag small)

element_spelled : (tag : ℕ) (content : List ℕ) → CanBeTag tag → tag < 256 → length content < 2 ^ 32 → Spells (element tag content) (written tag content)
element_spelled tag content is_tag one small = spells_as tag content (element tag content) is_tag small (octets-element tag content one small)

plain_spelled : (p : Plain) → IsNotOther p → FitsPlain p → IsOfTypes p → (e : Element) × Spells (data_plain p) e × IsPlain p e
plain_spelled (truth b) known fits of_types = (_, element_spelled 131 ((if b then 255 else 0) ∷ []) (λ e. omega (arith, e), refl) (omega arith) (omega arith), (refl, boolean_spells b))
plain_spelled (bits bs) known fits of_types = (_, spells_as 132 (bit_octets bs) _ (λ e. omega (arith, e), refl) (omega (arith, fits, length_of_bit_octets bs)) (bits_written bs fits), (refl, bit_octets-spell bs))
plain_spelled (int z) known fits of_types = (_, spells_as 133 (int_octets z) _ (λ e. omega (arith, e), refl) (omega (arith, length-int_octets z)) (word_written z of_types), (refl, (int_octets-spell z of_types).0))
plain_spelled (uint n) known fits of_types = (_, spells_as 134 (uint_octets n) _ (λ e. omega (arith, e), refl) (omega (arith, length-uint_octets n)) (uint_written n), (refl, (uint_octets-spell n of_types).0))
plain_spelled (octets o) known fits of_types = (_, element_spelled 137 o (λ e. omega (arith, e), refl) (omega arith) fits, (refl, refl))
plain_spelled (text t) known fits of_types = (_, element_spelled 138 t (λ e. omega (arith, e), refl) (omega arith) fits, (refl, (refl, of_types)))
plain_spelled (stamp ms days) known fits of_types = (
  _,
  element_spelled 140 (to_be_bytes w32 ms ++ to_be_bytes w16 days) (λ e. omega (arith, e), refl) (omega arith) (omega arith),
  (refl, (refl, big_endian-32 ms of_types.0, big_endian-16 days of_types.1)),
)
plain_spelled (time secs frac quality) known fits of_types = (
  _,
  element_spelled 145 (to_be_bytes w32 secs ++ ((frac / 65536) ∷ (frac / 256 % 256) ∷ (frac % 256) ∷ quality ∷ [])) (λ e. omega (arith, e), refl) (omega arith) (omega arith),
  (refl, (refl, big_endian-32 secs of_types.0, fraction frac fits, refl)),
)
plain_spelled other known fits of_types = absurd known

mutual
  pub spelled : (s : Seen) → SeenHasNoOther s → FitsSeen s → SeenIsOfTypes s → (e : Element) × Spells (data_seen s) e × IsData s e
  spelled (plain p) known fits of_types = plain_spelled p known fits of_types
  spelled (structure r) known fits of_types =
      let h = all_spelled r known fits.1 of_types in
      (_, element_spelled 162 (data_row r) (λ e. omega (arith, e), refl) (omega arith) fits.0, (refl, h.0, h.1, h.2))

  all_spelled : (r : Row) → RowHasNoOther r → FitsRow r → RowIsOfTypes r → (es : List Element) × IsRow (data_row r) es × AreData r es
  all_spelled none known fits of_types = ([], refl, tt)
  all_spelled (more s r) known fits of_types =
      let first = spelled s known.0 fits.0 of_types.0 in
      let others = all_spelled r known.1 fits.1 of_types.1 in
      (first.0 ∷ others.0, (data_seen s, data_row r, first.1, refl, others.1), (first.2, others.2))

pub read_back : (s : Seen) → SeenHasNoOther s → depth_seen s ≤ 10 → FitsSeen s → SeenIsOfTypes s → IsSpelled (data_seen s) s
read_back s known le fits of_types = let h = spelled s known fits of_types in (h.0, h.1, (h.2, le))

pub followed : (s : Seen) (rest : List ℕ) → SeenHasNoOther s → depth_seen s ≤ 10 → FitsSeen s → SeenIsOfTypes s → (e : Element) × Begins (data_seen s ++ rest) e rest × IsWithin 10 e s
followed s rest known le fits of_types = let h = spelled s known fits of_types in (h.0, (data_seen s, h.1, refl), (h.2, le))

pub one_value : (e : Element) (s t : Seen) → IsBytes e.content → IsData s e → IsData t e → s ≡ t
one_value e s t fits is also =
    let n = max (depth_seen s) (depth_seen t) in
    ok_is {F = DataFault} s t (sym (data_again n e s fits (is, omega arith)) ∙ data_again n e t fits (also, omega arith))
