-- Numbers in octets.
use Rattle.std.proofs.Common.{◌≡◌, ℕ, zero, suc, ◌+◌, ◌*◌, ◌^◌, ◌<◌, ◌≤◌, cond, ltb, List, [], ◌∷◌, length, Result, Ok, Err, inl, inr, refl, subst, arith}
use Rattle.std.proofs.Math.Nat.{pow-le-pow_right}
use Rattle.std.proofs.lemmas.Bool.{ltb-true, ltb-false, lt-ltb, le-ltb, cond_both, cases_lt}
use Rattle.ber_grammar.specs.declared.fault.BerFault.{BerFault}
use Rattle.ber_grammar.specs.declared.fault.BerFault.TheVariants.{BadNumber}
use Rattle.ber_grammar.specs.Octets.{big_endian, IsBytes}
use Rattle.ber_grammar.specs.Content.{IsUint, IsUintRefused}
use Rattle.ber_grammar.specs.Reader.{Gives, Reads}
use Rattle.ber_grammar.specs.Reading.{uint_at}
use Rattle.ber_grammar.proofs.ReaderLaws.{one_refusal, reads_from}
use Rattle.ber_grammar.proofs.OctetLaws.{IsBytes-rest, big_endian-cons, big_endian-below}

-- one more octet fits
pub room : (n i : ℕ) → n < 256 ^ i → i < 8 → n * 256 + 255 < 2 ^ 64
room n i lt le = let small : 256 ^ i ≤ 256 ^ 7 = pow-le-pow_right {n = 256} (omega arith) {i = i} {j = 7} (omega arith) in omega arith

-- ---- unsigned numbers

large : (a p b : ℕ) → p ≤ suc a * p + b
large a p b = grind arith

nine : (a : ℕ) (rest : List ℕ) → length rest ≡ 8 → big_endian (suc a ∷ rest) < 2 ^ 64 → ⊥
nine a rest len lt =
    let power : 256 ^ length rest ≡ 2 ^ 64 = rw len refl in
    omega (arith, large a (256 ^ length rest) (big_endian rest), power, lt, big_endian-cons (suc a) rest)

pub uint_again : (content : List ℕ) (n : ℕ) → IsUint content n → uint_at content ≡ Ok n
unfolding uint_at
uint_again [] n h = absurd h
uint_again (zero ∷ rest) n h = rw (le-ltb 8 (length rest) (omega (arith, h.0)), h.2) refl
uint_again (suc a ∷ rest) n h =
    let short : length (suc a ∷ rest) ≤ 8 = elim (cases_lt (length rest) 8) [ inl lt ↦ omega arith | inr ge ↦ absurd (nine a rest (omega (arith, h.0)) (subst (λ (k : ℕ). k < 2 ^ 64) h.2 h.3)) ] in
    rw (lt-ltb (suc a) 128 h.1, le-ltb 8 (length (suc a ∷ rest)) short, h.2) refl

below : (k : ℕ) (xs : List ℕ) → IsBytes xs → length xs ≤ 8 → big_endian xs < 2 ^ 64
below k xs fits le =
    let small : 256 ^ length xs ≤ 256 ^ 8 = pow-le-pow_right {n = 256} (omega arith) {i = length xs} {j = 8} le in
    omega (arith, big_endian-below xs fits, small)

abbrev pub UintTells : List ℕ → Result ℕ BerFault → Type 0
UintTells content (Ok n) = IsUint content n
UintTells content (Err f) = f ≡ BadNumber

pub uint_tells : (content : List ℕ) → IsBytes content → UintTells content (uint_at content)
unfolding uint_at
uint_tells [] fits = refl
uint_tells (zero ∷ rest) fits =
    cond_both (ltb 8 (length rest)) (Err BadNumber) (Ok (big_endian rest)) (λ r. UintTells (0 ∷ rest) r) (λ e. refl)
    (λ e. (omega (arith, ltb-false 8 (length rest) e), omega arith, refl, below 0 rest (IsBytes-rest 0 rest fits) (ltb-false 8 (length rest) e)))
uint_tells (suc a ∷ rest) fits =
    cond_both (ltb (suc a) 128) (cond (ltb 8 (length (suc a ∷ rest))) (Err BadNumber) (Ok (big_endian (suc a ∷ rest)))) (Err BadNumber) (λ r. UintTells (suc a ∷ rest) r)
    (λ lt. cond_both (ltb 8 (length (suc a ∷ rest))) (Err BadNumber) (Ok (big_endian (suc a ∷ rest))) (λ r. UintTells (suc a ∷ rest) r) (λ e. refl)
    (λ e. let le = ltb-false 8 (length (suc a ∷ rest)) e in (omega (arith, le), ltb-true _ _ lt, refl, below 0 (suc a ∷ rest) fits le)))
    (λ e. refl)

pub uint_found : (content : List ℕ) → IsBytes content → (n : ℕ) → uint_at content ≡ Ok n → IsUint content n
uint_found content fits n e = subst (λ (r : Result ℕ BerFault). UintTells content r) e (uint_tells content fits)

uint_fault : (content : List ℕ) → IsBytes content → (f : BerFault) → uint_at content ≡ Err f → f ≡ BadNumber
uint_fault content fits f e = subst (λ (r : Result ℕ BerFault). UintTells content r) e (uint_tells content fits)

pub uint_exact : (content : List ℕ) → IsBytes content → Reads (λ (n : ℕ). n) (uint_at content) (IsUint content) (IsUintRefused content)
uint_exact content fits = one_refusal (uint_at content) (IsUint content) BadNumber (uint_found content fits) (uint_again content) (uint_fault content fits)

pub uint_reads : {X : Type 0} (view : X → ℕ) (r : Result X BerFault) (content : List ℕ) → IsBytes content → Gives view r (uint_at content) → Reads view r (IsUint content) (IsUintRefused content)
uint_reads view r content fits g = reads_from view r (uint_at content) (IsUint content) (IsUintRefused content) (uint_exact content fits) g
