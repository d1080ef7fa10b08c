-- The least spelling by the words of this crate is that of sv_base's definition of Data.
use Rattle.std.proofs.Common.{◌≡◌, ◌≢◌, ℕ, ◌+◌, ◌-◌, ◌/◌, ◌%◌, ◌^◌, ◌<◌, ◌≤◌, cond, ltb, List, [], ◌∷◌, length, drop, refl, sym, ap, ◌∙◌, arith}
use Rattle.std.specs.Prelude.{ℤ, pos, negsuc}
use lib.Signed.{mag}
use Rattle.std.specs.Int.{w32, w64, to_be_bytes, cast_unsigned}
use Rattle.std.proofs.lemmas.Bool.{lt-ltb, le-ltb, le-leb, ltb-true, ltb-false, eq-eqb, ne_eqb, cond_both}
use Rattle.sv_base.specs.Data.{without_zeros, length_field, shortest}
use Rattle.ber_write.specs.Minimal.{length_octets, is_spare, strip, int_octets, uint_octets, IsWord}

-- ---- lengths

one_left : (a b c d : ℕ) → a ≡ 0 → b ≡ 0 → c ≡ 0 → d ≢ 0 → without_zeros (a ∷ b ∷ c ∷ d ∷ []) ≡ d ∷ []
one_left a b c d p q r s = rw (eq-eqb a 0 p, eq-eqb b 0 q, eq-eqb c 0 r, ne_eqb d 0 s) refl

two_left : (a b c d : ℕ) → a ≡ 0 → b ≡ 0 → c ≢ 0 → without_zeros (a ∷ b ∷ c ∷ d ∷ []) ≡ c ∷ d ∷ []
two_left a b c d p q r = rw (eq-eqb a 0 p, eq-eqb b 0 q, ne_eqb c 0 r) refl

three_left : (a b c d : ℕ) → a ≡ 0 → b ≢ 0 → without_zeros (a ∷ b ∷ c ∷ d ∷ []) ≡ b ∷ c ∷ d ∷ []
three_left a b c d p q = rw (eq-eqb a 0 p, ne_eqb b 0 q) refl

four_left : (a b c d : ℕ) → a ≢ 0 → without_zeros (a ∷ b ∷ c ∷ d ∷ []) ≡ a ∷ b ∷ c ∷ d ∷ []
four_left a b c d p = rw (ne_eqb a 0 p) refl

with_count : (octets rest : List ℕ) → octets ≡ rest → (128 + length octets) ∷ octets ≡ (128 + length rest) ∷ rest
with_count octets rest e = ap (λ (x : List ℕ). (128 + length x) ∷ x) e

two_same : (a b c d : ℕ) → a ≡ c → b ≡ d → a ∷ b ∷ [] ≡ c ∷ d ∷ []
two_same a b c d p q = rw (p, q) refl

three_same : (a b c d e f : ℕ) → a ≡ d → b ≡ e → c ≡ f → a ∷ b ∷ c ∷ [] ≡ d ∷ e ∷ f ∷ []
three_same a b c d e f p q r = rw (p, q, r) refl

four_same : (a b c d e f g h : ℕ) → a ≡ e → b ≡ f → c ≡ g → d ≡ h → a ∷ b ∷ c ∷ d ∷ [] ≡ e ∷ f ∷ g ∷ h ∷ []
four_same a b c d e f g h p q r s = rw (p, q, r, s) refl

long_field : (n : ℕ) → 128 ≤ n → length_field n ≡ (128 + length (without_zeros (to_be_bytes w32 n))) ∷ without_zeros (to_be_bytes w32 n)
long_field n le = rw (le-ltb n 128 le) refl

pub length_is_field : (n : ℕ) → n < 2 ^ 32 → length_octets n ≡ length_field n
length_is_field n small =
    cond_both (ltb n 128) (n ∷ []) (cond (ltb n 256) (129 ∷ n ∷ []) (cond (ltb n 65536) (130 ∷ n / 256 ∷ n % 256 ∷ []) (cond (ltb n 16777216) (131 ∷ n / 65536 ∷ n / 256 % 256 ∷ n % 256 ∷ []) (132 ∷ n / 16777216 ∷ n / 65536 % 256 ∷ n / 256 % 256 ∷ n % 256 ∷ [])))) (λ o. o ≡ length_field n)
    (λ e. rw e refl)
    (λ e. let over = ltb-false n 128 e in
    cond_both (ltb n 256) (129 ∷ n ∷ []) (cond (ltb n 65536) (130 ∷ n / 256 ∷ n % 256 ∷ []) (cond (ltb n 16777216) (131 ∷ n / 65536 ∷ n / 256 % 256 ∷ n % 256 ∷ []) (132 ∷ n / 16777216 ∷ n / 65536 % 256 ∷ n / 256 % 256 ∷ n % 256 ∷ []))) (λ o. o ≡ length_field n)
    (λ e. sym (long_field n over ∙ with_count _ (n ∷ []) (one_octet n over (ltb-true n 256 e))))
    (λ e. let over = ltb-false n 256 e in
    cond_both (ltb n 65536) (130 ∷ n / 256 ∷ n % 256 ∷ []) (cond (ltb n 16777216) (131 ∷ n / 65536 ∷ n / 256 % 256 ∷ n % 256 ∷ []) (132 ∷ n / 16777216 ∷ n / 65536 % 256 ∷ n / 256 % 256 ∷ n % 256 ∷ [])) (λ o. o ≡ length_field n)
    (λ e. sym (long_field n (omega (arith, over)) ∙ with_count _ (n / 256 ∷ n % 256 ∷ []) (two_octets n over (ltb-true n 65536 e))))
    (λ e. let over = ltb-false n 65536 e in
    cond_both (ltb n 16777216) (131 ∷ n / 65536 ∷ n / 256 % 256 ∷ n % 256 ∷ []) (132 ∷ n / 16777216 ∷ n / 65536 % 256 ∷ n / 256 % 256 ∷ n % 256 ∷ []) (λ o. o ≡ length_field n)
    (λ e. sym (long_field n (omega (arith, over)) ∙ with_count _ (n / 65536 ∷ n / 256 % 256 ∷ n % 256 ∷ []) (three_octets n over (ltb-true n 16777216 e))))
    (λ e. let over = ltb-false n 16777216 e in
    sym (long_field n (omega (arith, over)) ∙ with_count _ (n / 16777216 ∷ n / 65536 % 256 ∷ n / 256 % 256 ∷ n % 256 ∷ []) (four_octets n over small))))))
  where
    one_octet : (n : ℕ) → 128 ≤ n → n < 256 → without_zeros (to_be_bytes w32 n) ≡ n ∷ []
    one_octet n over under = one_left (n / 256 ^ 3 % 256) (n / 256 ^ 2 % 256) (n / 256 ^ 1 % 256) (n % 256) (omega (arith, under)) (omega (arith, under)) (omega (arith, under)) (λ e. omega (arith, over, under, e))
        ∙ ap (λ (x : ℕ). x ∷ []) (omega (arith, under))

    two_octets : (n : ℕ) → 256 ≤ n → n < 65536 → without_zeros (to_be_bytes w32 n) ≡ n / 256 ∷ n % 256 ∷ []
    two_octets n over under = two_left (n / 256 ^ 3 % 256) (n / 256 ^ 2 % 256) (n / 256 ^ 1 % 256) (n % 256) (omega (arith, under)) (omega (arith, under)) (λ e. omega (arith, over, under, e))
        ∙ two_same _ _ _ _ (omega (arith, under)) refl

    three_octets : (n : ℕ) → 65536 ≤ n → n < 16777216 → without_zeros (to_be_bytes w32 n) ≡ n / 65536 ∷ n / 256 % 256 ∷ n % 256 ∷ []
    three_octets n over under = three_left (n / 256 ^ 3 % 256) (n / 256 ^ 2 % 256) (n / 256 ^ 1 % 256) (n % 256) (omega (arith, under)) (λ e. omega (arith, over, under, e))
        ∙ three_same _ _ _ _ _ _ (omega (arith, under)) (omega arith) refl

    four_octets : (n : ℕ) → 16777216 ≤ n → n < 2 ^ 32 → without_zeros (to_be_bytes w32 n) ≡ n / 16777216 ∷ n / 65536 % 256 ∷ n / 256 % 256 ∷ n % 256 ∷ []
    four_octets n over under = four_left (n / 256 ^ 3 % 256) (n / 256 ^ 2 % 256) (n / 256 ^ 1 % 256) (n % 256) (λ e. omega (arith, over, under, e))
        ∙ four_same _ _ _ _ _ _ _ _ (omega (arith, under)) (omega arith) (omega arith) refl

-- ---- numbers

strip-shortest : (octets : List ℕ) → strip octets ≡ shortest octets
strip-shortest [] = refl
strip-shortest (a ∷ []) = refl
strip-shortest (a ∷ b ∷ rest) = ap (λ (x : List ℕ). cond (is_spare a b) x (a ∷ b ∷ rest)) (strip-shortest (b ∷ rest))

-- an octet of the sign in front of one that shows it
behind_0 : (a : ℕ) (rest : List ℕ) → a < 128 → strip (0 ∷ a ∷ rest) ≡ strip (a ∷ rest)
behind_0 a rest lt = rw (lt-ltb a 128 lt) refl

behind_255 : (a : ℕ) (rest : List ℕ) → 128 ≤ a → strip (255 ∷ a ∷ rest) ≡ strip (a ∷ rest)
behind_255 a rest le = rw (le-leb 128 a le) refl

pub negative_word : (n : ℕ) → n < 2 ^ 63 → cast_unsigned w64 (negsuc n) ≡ 2 ^ 64 - 1 - n
negative_word n small = omega (arith, small)

pub positive_word : (n : ℕ) → n < 2 ^ 63 → cast_unsigned w64 (pos n) ≡ n
positive_word n small = omega (arith, small)

pub int_is_shortest : (v : ℤ) → IsWord v → int_octets v ≡ shortest (to_be_bytes w64 (cast_unsigned w64 v))
unfolding int_octets
int_is_shortest (pos n) small =
    behind_0 (n / 256 ^ 7 % 256) (drop 1 (to_be_bytes w64 n)) (omega (arith, small)) ∙ strip-shortest (to_be_bytes w64 n) ∙ ap (λ (x : ℕ). shortest (to_be_bytes w64 x)) (sym (positive_word n small))
int_is_shortest (negsuc n) small =
    behind_255 ((2 ^ 64 - 1 - n) / 256 ^ 7 % 256) (drop 1 (to_be_bytes w64 (2 ^ 64 - 1 - n))) (omega (arith, small)) ∙ strip-shortest (to_be_bytes w64 (2 ^ 64 - 1 - n)) ∙ ap (λ (x : ℕ). shortest (to_be_bytes w64 x)) (sym (negative_word n small))

pub word_of : (v : ℤ) → mag v < 2 ^ 63 → IsWord v
word_of (pos n) h = h
word_of (negsuc n) h = h

pub word_is_shortest : (v : ℤ) → mag v < 2 ^ 63 → int_octets v ≡ shortest (to_be_bytes w64 (cast_unsigned w64 v))
word_is_shortest v fits = int_is_shortest v (word_of v fits)

pub uint_is_shortest : (n : ℕ) → uint_octets n ≡ shortest (0 ∷ to_be_bytes w64 n)
unfolding uint_octets
uint_is_shortest n = strip-shortest (0 ∷ to_be_bytes w64 n)
