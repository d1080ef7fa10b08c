-- A longer content has no shorter length field.
use Rattle.std.proofs.Common.{◌≡◌, ℕ, ◌+◌, ◌≤◌, ◌<◌, ◌==◌, Bool, true, false, List, [], ◌∷◌, length, refl, ap, ◌∙◌, arith, nat_lt, if◌then◌else◌}
use Rattle.std.specs.Int.{to_be_bytes, byte_at, w32}
use Rattle.std.proofs.lemmas.Bool.Decides.{nat_tests}
use Rattle.std.proofs.lemmas.Bool.{cond-false}
use Rattle.sv_base.specs.Data.{length_field, without_zeros}
use Rattle.value_store.proofs.HeadLaws.{short_field}

zero-off : (a : ℕ) (rest : List ℕ) → a ≡ 0 → without_zeros (a ∷ rest) ≡ without_zeros rest
zero-off a rest e = ap (λ b. if b == 0 then without_zeros rest else b ∷ rest) e

stays : (a : ℕ) (rest : List ℕ) → 0 < a → without_zeros (a ∷ rest) ≡ a ∷ rest
stays a rest h = let no : (a == 0) ≡ false = grind (arith, nat_tests) in cond-false _ _ _ no

one-octet : (a b c d : ℕ) → a ≡ 0 → b ≡ 0 → c ≡ 0 → 0 < d → length (without_zeros (a ∷ b ∷ c ∷ d ∷ [])) ≡ 1
one-octet a b c d e f g h = ap length (zero-off a (b ∷ c ∷ d ∷ []) e ∙ (zero-off b (c ∷ d ∷ []) f ∙ (zero-off c (d ∷ []) g ∙ stays d [] h)))

two-octets : (a b c d : ℕ) → a ≡ 0 → b ≡ 0 → 0 < c → length (without_zeros (a ∷ b ∷ c ∷ d ∷ [])) ≡ 2
two-octets a b c d e f g = ap length (zero-off a (b ∷ c ∷ d ∷ []) e ∙ (zero-off b (c ∷ d ∷ []) f ∙ stays c (d ∷ []) g))

long-field : (n k : ℕ) → 128 ≤ n → length (without_zeros (to_be_bytes w32 n)) ≡ k → length (length_field n) ≡ 1 + k
long-field n k h e = let is : nat_lt n 128 ≡ false = grind (arith, nat_tests) in
    ap length (cond-false _ (n ∷ []) ((128 + length (without_zeros (to_be_bytes w32 n))) ∷ without_zeros (to_be_bytes w32 n)) is) ∙ omega (arith, e)

middle-field : (n : ℕ) → 128 ≤ n → n < 256 → length (length_field n) ≡ 2
middle-field n h k = long-field n 1 h (one-octet (byte_at 3 n) (byte_at 2 n) (byte_at 1 n) (byte_at 0 n) (omega arith) (omega arith) (omega arith) (omega arith))

large-field : (n : ℕ) → 256 ≤ n → n ≤ 500 → length (length_field n) ≡ 3
large-field n h k = long-field n 2 (omega arith) (two-octets (byte_at 3 n) (byte_at 2 n) (byte_at 1 n) (byte_at 0 n) (omega arith) (omega arith) (omega arith))

abbrev width : ℕ → ℕ
width n = if nat_lt n 128 then 1 else if nat_lt n 256 then 2 else 3

width-is : (n : ℕ) → n ≤ 500 → length (length_field n) ≡ width n
width-is n h = by (nat_lt n 128) refl (nat_lt n 256) refl
  where
    by : (a : Bool) → nat_lt n 128 ≡ a → (b : Bool) → nat_lt n 256 ≡ b → length (length_field n) ≡ (if a then 1 else if b then 2 else 3)
    by true e b f = short_field n (grind (arith, nat_tests, e))
    by false e true f = middle-field n (grind (arith, nat_tests, e)) (grind (arith, nat_tests, f))
    by false e false f = large-field n (grind (arith, nat_tests, f)) h

width-grows : (a b : ℕ) → a ≤ b → width a ≤ width b
width-grows a b h = grind (arith, nat_tests)

pub field-grows : (a b : ℕ) → a ≤ b → b ≤ 500 → length (length_field a) ≤ length (length_field b)
field-grows a b h k = omega (arith, width-is a (omega arith), width-is b k, width-grows a b h)
