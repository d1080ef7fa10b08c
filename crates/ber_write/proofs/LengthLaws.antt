-- How many octets a tag, a length and an element have.
use Rattle.std.proofs.Common.{◌≡◌, ℕ, ◌+◌, ◌<◌, ◌≤◌, List, [], ◌∷◌, ◌++◌, length, refl, ap, subst, ◌∙◌, append_assoc, arith}
use Rattle.std.proofs.lemmas.Bool.{lt-ltb}
use Rattle.std.proofs.lemmas.Bool.Decides.{nat_tests}
use Rattle.std.proofs.lemmas.List.{length-append}
use Rattle.ber_write.specs.Minimal.{tag_octets, length_octets, head_octets, octets_of, element_size}

-- ---- a tag

pub tag_at_most_three : (tag : ℕ) → length (tag_octets tag) ≤ 3
tag_at_most_three tag = grind (arith, nat_tests)

pub tag_of_one : (tag : ℕ) → tag < 256 → tag_octets tag ≡ tag ∷ []
tag_of_one tag lt = rw (lt-ltb tag 256 lt) refl

-- ---- a length

pub at_most_five : (n : ℕ) → length (length_octets n) ≤ 5
at_most_five n = grind (arith, nat_tests)

pub at_most_four : (n : ℕ) → n < 16777216 → length (length_octets n) ≤ 4
at_most_four n lt = rw (lt-ltb n 16777216 lt) (grind (arith, nat_tests))

pub at_most_three : (n : ℕ) → n < 65536 → length (length_octets n) ≤ 3
at_most_three n lt = rw (lt-ltb n 65536 lt) (grind (arith, nat_tests))

pub at_most_two : (n : ℕ) → n < 256 → length (length_octets n) ≤ 2
at_most_two n lt = rw (lt-ltb n 256 lt) (grind (arith, nat_tests))

-- a larger length has no fewer octets
pub length_grows : (m n : ℕ) → m ≤ n → length (length_octets m) ≤ length (length_octets n)
length_grows m n le = grind (arith, nat_tests)

-- ---- an element

pub length-octets_of : (tag : ℕ) (content : List ℕ)
    → length (octets_of tag content) ≡ length (tag_octets tag) + (length (length_octets (length content)) + length content)
length-octets_of tag content =
    length-append (tag_octets tag) (length_octets (length content) ++ content)
    ∙ ap (λ (n : ℕ). length (tag_octets tag) + n) (length-append (length_octets (length content)) content)

-- under a tag of one octet
pub length-one_octet : (tag : ℕ) (content : List ℕ) → tag < 256
    → length (octets_of tag content) ≡ 1 + (length (length_octets (length content)) + length content)
length-one_octet tag content lt =
    length-octets_of tag content
    ∙ ap (λ (t : List ℕ). length t + (length (length_octets (length content)) + length content)) (tag_of_one tag lt)

pub length_of_element : (tag : ℕ) (content : List ℕ) → tag < 256 → length (octets_of tag content) ≡ element_size (length content)
unfolding element_size
length_of_element tag content lt = length-one_octet tag content lt

-- no fewer than its content
pub octets_longer : (tag : ℕ) (content : List ℕ) → length content ≤ length (octets_of tag content)
octets_longer tag content = omega (arith, length-octets_of tag content)

pub inside : (tag : ℕ) (content : List ℕ) (n : ℕ) → length (octets_of tag content) < n → length content < n
inside tag content n lt = omega (arith, lt, octets_longer tag content)

-- at most eight more than its content, and at most six under a tag of one octet
pub octets_short : (tag : ℕ) (content : List ℕ) → length (octets_of tag content) ≤ 8 + length content
octets_short tag content = omega (arith, length-octets_of tag content, tag_at_most_three tag, at_most_five (length content))

pub octets_few : (tag : ℕ) (content : List ℕ) → tag < 256 → length (octets_of tag content) ≤ 6 + length content
octets_few tag content lt = omega (arith, length-one_octet tag content lt, at_most_five (length content))

-- a shorter content makes a shorter element
pub octets_grow : (tag : ℕ) (a b : List ℕ) → length a ≤ length b → length (octets_of tag a) ≤ length (octets_of tag b)
octets_grow tag a b le = omega (arith, length-octets_of tag a, length-octets_of tag b, length_grows (length a) (length b) le, le)

-- what stands before a content, and the content
pub headed : (tag n : ℕ) (content : List ℕ) → length content ≡ n → head_octets tag n ++ content ≡ octets_of tag content
headed tag n content e =
    subst (λ (k : ℕ). head_octets tag k ++ content ≡ octets_of tag content) e
    (append_assoc (tag_octets tag) (length_octets (length content)) content)
