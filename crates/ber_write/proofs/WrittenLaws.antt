-- Elements that are written one after another, and the fewest octets that elements have.
use Rattle.std.proofs.Common.{◌≡◌, ℕ, ◌+◌, ◌%◌, ◌^◌, ◌<◌, ◌≤◌, List, [], ◌∷◌, ◌++◌, length, refl, sym, ap, subst, arith}
use Rattle.std.proofs.lemmas.Bool.{lt-ltb}
use Rattle.std.proofs.lemmas.List.{append-nil, length-append}
use Rattle.ber_grammar.specs.Octets.{IsBytes}
use Rattle.ber_grammar.specs.Element.{Element, Spells, IsRow}
use Rattle.ber_grammar.proofs.OctetLaws.{IsBytes-front, IsBytes-back}
use Rattle.ber_write.specs.Minimal.{octets_of, written, CanBeTag}
use Rattle.ber_write.proofs.LengthLaws.{octets_grow, inside}
use Rattle.ber_write.proofs.ElementLaws.{is_minimal, is_spelling}

-- ---- a row

-- a tag of one octet
pub one_octet : (tag : ℕ) → tag < 256 → (tag % 32 ≡ 31 → ⊥) → CanBeTag tag
one_octet tag lt ne = rw (lt-ltb tag 256 lt) (ne, refl)

pub written_more : (tag : ℕ) (content rest : List ℕ) (es : List Element) → CanBeTag tag → length content < 2 ^ 32 → IsRow rest es
    → IsRow (octets_of tag content ++ rest) (written tag content ∷ es)
written_more tag content rest es can small row = (octets_of tag content, rest, is_spelling tag content can small, refl, row)

pub written_last : (tag : ℕ) (content : List ℕ) → CanBeTag tag → length content < 2 ^ 32 → IsRow (octets_of tag content) (written tag content ∷ [])
written_last tag content can small = (octets_of tag content, [], is_spelling tag content can small, sym (append-nil (octets_of tag content)), refl)

-- an element under a tag of one octet that is no longer than what is known
pub whole_last : (tag : ℕ) (content : List ℕ) → tag < 256 → (tag % 32 ≡ 31 → ⊥) → length (octets_of tag content) < 2 ^ 32
    → IsRow (octets_of tag content) (written tag content ∷ [])
whole_last tag content lt ne small = written_last tag content (one_octet tag lt ne) (inside tag content (2 ^ 32) small)

-- ---- the fewest octets

-- an element is no shorter than it is written with a content that is no longer
pub element_least : (tag : ℕ) (octets content : List ℕ) (e : Element) → IsBytes octets → Spells octets e → e.tag ≡ tag
    → length content ≤ length e.content → length (octets_of tag content) ≤ length octets
element_least tag octets content e fits spelled is_tag le =
    omega (arith, (is_minimal octets e fits spelled).0, ap (λ (t : ℕ). length (octets_of t e.content)) is_tag, octets_grow tag content e.content le)

-- the octets that elements have at least
abbrev pub least : List Element → ℕ
least [] = 0
least (e ∷ es) = length (octets_of e.tag e.content) + least es

pub row_least : (octets : List ℕ) (es : List Element) → IsBytes octets → IsRow octets es → least es ≤ length octets
row_least octets [] fits row = omega arith
row_least octets (e ∷ es) fits (front, rest, spelled, at, row) =
    let whole : IsBytes (front ++ rest) = subst IsBytes at fits in
    let first = (is_minimal front e (IsBytes-front front rest whole) spelled).0 in
    omega (arith, first, row_least rest es (IsBytes-back front rest whole) row, ap length at, length-append front rest)
