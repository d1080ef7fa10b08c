-- The octets that ber_write writes are those of sv_base's definition of Data.
use Rattle.std.proofs.Common.{◌≡◌, ℕ, ◌-◌, ◌*◌, ◌%◌, ◌^◌, ◌<◌, ◌≤◌, Bool, List, [], ◌∷◌, ◌++◌, length, Result, Ok, Err, ap, ap₂, refl, ◌∙◌, arith}
use Rattle.std.specs.Prelude.{ℤ, OnOk}
use lib.Signed.{mag}
use Rattle.std.proofs.lemmas.Bool.{lt-ltb}
use Rattle.ber_write.specs.Minimal.{octets_of, int_octets, uint_octets, IsWord}
use Rattle.ber_write.specs.BitString.{packed as packed_octets, bit_octets}
use Rattle.ber_write.proofs.SameLaws.{length_is_field, word_of, int_is_shortest, uint_is_shortest}
use Rattle.ber_write.proofs.NumberLaws.{length-int_octets, length-uint_octets}
use Rattle.ber_write.proofs.BitLaws.{length_of_bit_octets}
use Rattle.sv_base.specs.Data.{element, packed, data_plain}
use Rattle.sv_base.specs.Tree.{int, uint, bits}

-- ---- elements

pub octets-element : (tag : ℕ) (content : List ℕ) → tag < 256 → length content < 2 ^ 32 → octets_of tag content ≡ element tag content
octets-element tag content one small = rw (lt-ltb tag 256 one) (ap (λ (x : List ℕ). tag ∷ (x ++ content)) (length_is_field (length content) small))

-- ---- bits

pub packed-octets : (bs : List Bool) → packed_octets bs ≡ packed 128 0 bs
packed-octets [] = refl
packed-octets (a ∷ []) = ap (λ (x : ℕ). x ∷ []) (omega arith)
packed-octets (a ∷ b ∷ []) = ap (λ (x : ℕ). x ∷ []) (omega arith)
packed-octets (a ∷ b ∷ c ∷ []) = ap (λ (x : ℕ). x ∷ []) (omega arith)
packed-octets (a ∷ b ∷ c ∷ d ∷ []) = ap (λ (x : ℕ). x ∷ []) (omega arith)
packed-octets (a ∷ b ∷ c ∷ d ∷ e ∷ []) = ap (λ (x : ℕ). x ∷ []) (omega arith)
packed-octets (a ∷ b ∷ c ∷ d ∷ e ∷ f ∷ []) = ap (λ (x : ℕ). x ∷ []) (omega arith)
packed-octets (a ∷ b ∷ c ∷ d ∷ e ∷ f ∷ g ∷ []) = ap (λ (x : ℕ). x ∷ []) (omega arith)
packed-octets (a ∷ b ∷ c ∷ d ∷ e ∷ f ∷ g ∷ h ∷ rest) = ap₂ (λ (x : ℕ) (y : List ℕ). x ∷ y) (omega arith) (packed-octets rest)

pub bit_octets-packed : (bs : List Bool) → bit_octets bs ≡ ((8 - length bs % 8) % 8) ∷ packed 128 0 bs
unfolding bit_octets
bit_octets-packed bs = ap (λ (x : List ℕ). ((8 - length bs % 8) % 8) ∷ x) (packed-octets bs)

-- ---- the Data of values

pub bits_written : (bs : List Bool) → length bs ≤ 8 * (2 ^ 32 - 2) → octets_of 132 (bit_octets bs) ≡ data_plain (bits bs)
bits_written bs few = octets-element 132 (bit_octets bs) (omega arith) (omega (arith, few, length_of_bit_octets bs)) ∙ ap (element 132) (bit_octets-packed bs)

pub word_written : (v : ℤ) → IsWord v → octets_of 133 (int_octets v) ≡ data_plain (int v)
word_written v small = octets-element 133 (int_octets v) (omega arith) (omega (arith, length-int_octets v)) ∙ ap (element 133) (int_is_shortest v small)

pub int_written : (v : ℤ) → mag v < 2 ^ 63 → octets_of 133 (int_octets v) ≡ data_plain (int v)
int_written v fits = word_written v (word_of v fits)

pub uint_written : (n : ℕ) → octets_of 134 (uint_octets n) ≡ data_plain (uint n)
uint_written n = octets-element 134 (uint_octets n) (omega arith) (omega (arith, length-uint_octets n)) ∙ ap (element 134) (uint_is_shortest n)

-- other words for the octets that were added
pub in_other_words : {A E : Type 0} (r : Result A E) (new old a b : List ℕ) → a ≡ b → OnOk r (new ≡ old ++ a) → OnOk r (new ≡ old ++ b)
in_other_words (Ok x) new old a b e h = h ∙ ap (λ (x : List ℕ). old ++ x) e
in_other_words (Err f) new old a b e h = h
