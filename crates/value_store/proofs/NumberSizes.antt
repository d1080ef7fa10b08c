-- How many octets a number of a type has.
use Rattle.std.proofs.Common.{◌≡◌, ℕ, suc, ◌+◌, ◌-◌, ◌/◌, ◌%◌, ◌^◌, ◌<◌, ◌≤◌, inl, inr, List, [], ◌∷◌, ◌++◌, length, true, refl, sym, ap, subst, ◌∙◌, arith}
use Rattle.std.specs.Prelude.{ℤ, pos, negsuc, nat_lt, ◌==◌, ◌&&◌, ◌||◌}
use Rattle.std.specs.Int.{w64, to_be_bytes, cast_unsigned}
use Rattle.std.proofs.Math.Bool.{and-true}
use Rattle.std.proofs.Math.Dec.{leb}
use Rattle.std.proofs.lemmas.Bool.{lt-ltb, leb-true, ltb-true, cond_both}
use Rattle.sv_base.specs.Data.{shortest}
use Rattle.sv_base.specs.declared.value.Value.TheVariants as kinds
use Rattle.bay_model.specs.Model.{int, uint}
use Rattle.sv_base.specs.Kinds.{is_in_range}
use Rattle.bay_rooms.specs.Slots.{IsWidth}
use Rattle.ber_write.proofs.SameLaws.{negative_word as negative, positive_word as positive}

pub shortest_within : (octets : List ℕ) → length (shortest octets) ≤ length octets
shortest_within [] = omega arith
shortest_within (a ∷ []) = omega arith
shortest_within (a ∷ b ∷ rest) = cond_both (((a == 0) && nat_lt b 128) || ((a == 255) && nat_lt 127 b)) (shortest (b ∷ rest)) (a ∷ b ∷ rest) (λ o. length o ≤ length (a ∷ b ∷ rest))
    (λ e. omega (arith, shortest_within (b ∷ rest))) (λ e. omega arith)

-- all of them are this octet
abbrev pub AreAll : ℕ → List ℕ → Type 0
AreAll o [] = Unit {0}
AreAll o (z ∷ zs) = (z ≡ o) × AreAll o zs

-- an octet below 128 is the first
abbrev pub IsLow : List ℕ → Type 0
IsLow [] = ⊥
IsLow (b ∷ rest) = b < 128

-- an octet of 128 or more is the first
abbrev pub IsHigh : List ℕ → Type 0
IsHigh [] = ⊥
IsHigh (b ∷ rest) = 127 < b

zero_goes : (z : ℕ) (octets : List ℕ) → z ≡ 0 → IsLow octets → shortest (z ∷ octets) ≡ shortest octets
zero_goes z [] is low = absurd low
zero_goes z (b ∷ rest) is low = rw (is, lt-ltb b 128 low) refl

full_goes : (z : ℕ) (octets : List ℕ) → z ≡ 255 → IsHigh octets → shortest (z ∷ octets) ≡ shortest octets
full_goes z [] is high = absurd high
full_goes z (b ∷ rest) is high = rw (is, lt-ltb 127 b high) refl

low_first : (zs : List ℕ) (b : ℕ) (rest : List ℕ) → AreAll 0 zs → b < 128 → IsLow (zs ++ b ∷ rest)
low_first [] b rest are lt = lt
low_first (z ∷ zs) b rest are lt = omega (arith, are.0)

high_first : (zs : List ℕ) (b : ℕ) (rest : List ℕ) → AreAll 255 zs → 127 < b → IsHigh (zs ++ b ∷ rest)
high_first [] b rest are lt = lt
high_first (z ∷ zs) b rest are lt = omega (arith, are.0)

-- octets of the sign in front of one that shows it
pub after_zeros : (zs : List ℕ) (b : ℕ) (rest : List ℕ) → AreAll 0 zs → b < 128 → length (shortest (zs ++ b ∷ rest)) ≤ suc (length rest)
after_zeros [] b rest are lt = shortest_within (b ∷ rest)
after_zeros (z ∷ zs) b rest are lt = omega (arith, ap length (zero_goes z (zs ++ b ∷ rest) are.0 (low_first zs b rest are.1 lt)), after_zeros zs b rest are.1 lt)

pub after_fulls : (zs : List ℕ) (b : ℕ) (rest : List ℕ) → AreAll 255 zs → 127 < b → length (shortest (zs ++ b ∷ rest)) ≤ suc (length rest)
after_fulls [] b rest are lt = shortest_within (b ∷ rest)
after_fulls (z ∷ zs) b rest are lt = omega (arith, ap length (full_goes z (zs ++ b ∷ rest) are.0 (high_first zs b rest are.1 lt)), after_fulls zs b rest are.1 lt)

-- ---- numbers of eight octets

low_1 : (n : ℕ) → n < 128 → length (shortest (to_be_bytes w64 n)) ≤ 1
low_1 n lt = after_zeros (n / 256 ^ 7 % 256 ∷ n / 256 ^ 6 % 256 ∷ n / 256 ^ 5 % 256 ∷ n / 256 ^ 4 % 256 ∷ n / 256 ^ 3 % 256 ∷ n / 256 ^ 2 % 256 ∷ n / 256 ^ 1 % 256 ∷ []) (n % 256) []
    (omega (arith, lt), (omega (arith, lt), (omega (arith, lt), (omega (arith, lt), (omega (arith, lt), (omega (arith, lt), (omega (arith, lt), tt))))))) (omega (arith, lt))

low_2 : (n : ℕ) → n < 32768 → length (shortest (to_be_bytes w64 n)) ≤ 2
low_2 n lt = after_zeros (n / 256 ^ 7 % 256 ∷ n / 256 ^ 6 % 256 ∷ n / 256 ^ 5 % 256 ∷ n / 256 ^ 4 % 256 ∷ n / 256 ^ 3 % 256 ∷ n / 256 ^ 2 % 256 ∷ []) (n / 256 ^ 1 % 256) (n % 256 ∷ [])
    (omega (arith, lt), (omega (arith, lt), (omega (arith, lt), (omega (arith, lt), (omega (arith, lt), (omega (arith, lt), tt)))))) (omega (arith, lt))

low_4 : (n : ℕ) → n < 2147483648 → length (shortest (to_be_bytes w64 n)) ≤ 4
low_4 n lt = after_zeros (n / 256 ^ 7 % 256 ∷ n / 256 ^ 6 % 256 ∷ n / 256 ^ 5 % 256 ∷ n / 256 ^ 4 % 256 ∷ []) (n / 256 ^ 3 % 256) (n / 256 ^ 2 % 256 ∷ n / 256 ^ 1 % 256 ∷ n % 256 ∷ [])
    (omega (arith, lt), (omega (arith, lt), (omega (arith, lt), (omega (arith, lt), tt)))) (omega (arith, lt))

high_1 : (n : ℕ) → 2 ^ 64 - 128 ≤ n → n < 2 ^ 64 → length (shortest (to_be_bytes w64 n)) ≤ 1
high_1 n le lt = after_fulls (n / 256 ^ 7 % 256 ∷ n / 256 ^ 6 % 256 ∷ n / 256 ^ 5 % 256 ∷ n / 256 ^ 4 % 256 ∷ n / 256 ^ 3 % 256 ∷ n / 256 ^ 2 % 256 ∷ n / 256 ^ 1 % 256 ∷ []) (n % 256) []
    (omega (arith, le, lt), (omega (arith, le, lt), (omega (arith, le, lt), (omega (arith, le, lt), (omega (arith, le, lt), (omega (arith, le, lt), (omega (arith, le, lt), tt))))))) (omega (arith, le, lt))

high_2 : (n : ℕ) → 2 ^ 64 - 32768 ≤ n → n < 2 ^ 64 → length (shortest (to_be_bytes w64 n)) ≤ 2
high_2 n le lt = after_fulls (n / 256 ^ 7 % 256 ∷ n / 256 ^ 6 % 256 ∷ n / 256 ^ 5 % 256 ∷ n / 256 ^ 4 % 256 ∷ n / 256 ^ 3 % 256 ∷ n / 256 ^ 2 % 256 ∷ []) (n / 256 ^ 1 % 256) (n % 256 ∷ [])
    (omega (arith, le, lt), (omega (arith, le, lt), (omega (arith, le, lt), (omega (arith, le, lt), (omega (arith, le, lt), (omega (arith, le, lt), tt)))))) (omega (arith, le, lt))

high_4 : (n : ℕ) → 2 ^ 64 - 2147483648 ≤ n → n < 2 ^ 64 → length (shortest (to_be_bytes w64 n)) ≤ 4
high_4 n le lt = after_fulls (n / 256 ^ 7 % 256 ∷ n / 256 ^ 6 % 256 ∷ n / 256 ^ 5 % 256 ∷ n / 256 ^ 4 % 256 ∷ []) (n / 256 ^ 3 % 256) (n / 256 ^ 2 % 256 ∷ n / 256 ^ 1 % 256 ∷ n % 256 ∷ [])
    (omega (arith, le, lt), (omega (arith, le, lt), (omega (arith, le, lt), (omega (arith, le, lt), tt)))) (omega (arith, le, lt))

-- ---- signed numbers of a type

int_1 : (z : ℤ) → is_in_range (int 8) (kinds.Int z) ≡ true → length (shortest (to_be_bytes w64 (cast_unsigned w64 z))) ≤ 1
int_1 (pos n) h = let lt = leb-true n 127 h in rw (positive n (omega (arith, lt))) (low_1 n (omega (arith, lt)))
int_1 (negsuc n) h = let lt = leb-true n 127 (sym (and-true (leb n 127)) ∙ h) in rw (negative n (omega (arith, lt))) (high_1 (2 ^ 64 - 1 - n) (omega (arith, lt)) (omega (arith, lt)))

int_2 : (z : ℤ) → is_in_range (int 16) (kinds.Int z) ≡ true → length (shortest (to_be_bytes w64 (cast_unsigned w64 z))) ≤ 2
int_2 (pos n) h = let lt = leb-true n 32767 h in rw (positive n (omega (arith, lt))) (low_2 n (omega (arith, lt)))
int_2 (negsuc n) h = let lt = leb-true n 32767 (sym (and-true (leb n 32767)) ∙ h) in rw (negative n (omega (arith, lt))) (high_2 (2 ^ 64 - 1 - n) (omega (arith, lt)) (omega (arith, lt)))

int_4 : (z : ℤ) → is_in_range (int 32) (kinds.Int z) ≡ true → length (shortest (to_be_bytes w64 (cast_unsigned w64 z))) ≤ 4
int_4 (pos n) h = let lt = leb-true n 2147483647 h in rw (positive n (omega (arith, lt))) (low_4 n (omega (arith, lt)))
int_4 (negsuc n) h = let lt = leb-true n 2147483647 (sym (and-true (leb n 2147483647)) ∙ h) in rw (negative n (omega (arith, lt))) (high_4 (2 ^ 64 - 1 - n) (omega (arith, lt)) (omega (arith, lt)))

pub int_within : (w : ℕ) (z : ℤ) → IsWidth w → is_in_range (int w) (kinds.Int z) ≡ true → length (shortest (to_be_bytes w64 (cast_unsigned w64 z))) ≤ w / 8
int_within w z (inl is) = subst (λ (w : ℕ). is_in_range (int w) (kinds.Int z) ≡ true → length (shortest (to_be_bytes w64 (cast_unsigned w64 z))) ≤ w / 8) (sym is) (int_1 z)
int_within w z (inr (inl is)) = subst (λ (w : ℕ). is_in_range (int w) (kinds.Int z) ≡ true → length (shortest (to_be_bytes w64 (cast_unsigned w64 z))) ≤ w / 8) (sym is) (int_2 z)
int_within w z (inr (inr (inl is))) = subst (λ (w : ℕ). is_in_range (int w) (kinds.Int z) ≡ true → length (shortest (to_be_bytes w64 (cast_unsigned w64 z))) ≤ w / 8) (sym is) (int_4 z)
int_within w z (inr (inr (inr is))) = λ h. omega (arith, is, shortest_within (to_be_bytes w64 (cast_unsigned w64 z)))

-- ---- unsigned numbers of a type

uint_1 : (n : ℕ) → n < 256 → length (shortest (0 ∷ to_be_bytes w64 n)) ≤ 2
uint_1 n lt = after_zeros (0 ∷ n / 256 ^ 7 % 256 ∷ n / 256 ^ 6 % 256 ∷ n / 256 ^ 5 % 256 ∷ n / 256 ^ 4 % 256 ∷ n / 256 ^ 3 % 256 ∷ n / 256 ^ 2 % 256 ∷ []) (n / 256 ^ 1 % 256) (n % 256 ∷ [])
    (refl, (omega (arith, lt), (omega (arith, lt), (omega (arith, lt), (omega (arith, lt), (omega (arith, lt), (omega (arith, lt), tt))))))) (omega (arith, lt))

uint_2 : (n : ℕ) → n < 65536 → length (shortest (0 ∷ to_be_bytes w64 n)) ≤ 3
uint_2 n lt = after_zeros (0 ∷ n / 256 ^ 7 % 256 ∷ n / 256 ^ 6 % 256 ∷ n / 256 ^ 5 % 256 ∷ n / 256 ^ 4 % 256 ∷ n / 256 ^ 3 % 256 ∷ []) (n / 256 ^ 2 % 256) (n / 256 ^ 1 % 256 ∷ n % 256 ∷ [])
    (refl, (omega (arith, lt), (omega (arith, lt), (omega (arith, lt), (omega (arith, lt), (omega (arith, lt), tt)))))) (omega (arith, lt))

uint_4 : (n : ℕ) → n < 4294967296 → length (shortest (0 ∷ to_be_bytes w64 n)) ≤ 5
uint_4 n lt = after_zeros (0 ∷ n / 256 ^ 7 % 256 ∷ n / 256 ^ 6 % 256 ∷ n / 256 ^ 5 % 256 ∷ []) (n / 256 ^ 4 % 256) (n / 256 ^ 3 % 256 ∷ n / 256 ^ 2 % 256 ∷ n / 256 ^ 1 % 256 ∷ n % 256 ∷ [])
    (refl, (omega (arith, lt), (omega (arith, lt), (omega (arith, lt), tt)))) (omega (arith, lt))

pub uint_within : (w n : ℕ) → IsWidth w → is_in_range (uint w) (kinds.Uint n) ≡ true → length (shortest (0 ∷ to_be_bytes w64 n)) ≤ 1 + w / 8
uint_within w n (inl is) = subst (λ (w : ℕ). is_in_range (uint w) (kinds.Uint n) ≡ true → length (shortest (0 ∷ to_be_bytes w64 n)) ≤ 1 + w / 8) (sym is) (λ h. uint_1 n (ltb-true n 256 h))
uint_within w n (inr (inl is)) = subst (λ (w : ℕ). is_in_range (uint w) (kinds.Uint n) ≡ true → length (shortest (0 ∷ to_be_bytes w64 n)) ≤ 1 + w / 8) (sym is) (λ h. uint_2 n (ltb-true n 65536 h))
uint_within w n (inr (inr (inl is))) = subst (λ (w : ℕ). is_in_range (uint w) (kinds.Uint n) ≡ true → length (shortest (0 ∷ to_be_bytes w64 n)) ≤ 1 + w / 8) (sym is) (λ h. uint_4 n (ltb-true n 4294967296 h))
uint_within w n (inr (inr (inr is))) = λ h. omega (arith, is, shortest_within (0 ∷ to_be_bytes w64 n))
