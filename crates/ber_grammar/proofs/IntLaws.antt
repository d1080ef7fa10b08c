-- Signed numbers in octets.
use Rattle.std.proofs.Common.{◌≡◌, ℕ, suc, ◌+◌, ◌*◌, ◌^◌, ◌<◌, ◌≤◌, cond, eqb, ltb, List, [], ◌∷◌, length, Result, Ok, Err, refl, sym, subst, inl, inr, arith}
use Rattle.std.specs.Prelude.{ℤ, pos, negsuc}
use Rattle.std.proofs.Math.Nat.{pow-suc}
use Rattle.std.proofs.lemmas.Bool.{ltb-true, ltb-false, lt-ltb, le-ltb, eq-eqb, ne_eqb, eqb-true, cond_both, cases_lt, cases_eq}
use Rattle.ber_grammar.specs.declared.fault.BerFault.{BerFault}
use Rattle.ber_grammar.specs.declared.fault.BerFault.TheVariants.{BadNumber}
use Rattle.ber_grammar.specs.Octets.{big_endian, IsBytes}
use Rattle.ber_grammar.specs.Content.{IsInt, IsIntRefused}
use Rattle.ber_grammar.specs.Reader.{◌>>=◌, Gives, Reads}
use Rattle.ber_grammar.specs.Reading.{lack, positive, negative, uint_at, int_at}
use Rattle.ber_grammar.proofs.ReaderLaws.{one_refusal, reads_from}
use Rattle.ber_grammar.proofs.OctetLaws.{IsBytes-rest, big_endian-cons, big_endian-below}
use Rattle.ber_grammar.proofs.UintLaws.{uint_again, UintTells, uint_tells}

lacks : (xs : List ℕ) (n : ℕ) → n + 1 + big_endian xs ≡ 256 ^ length xs → lack xs ≡ n
lacks xs n h = omega arith

-- after 255 stands what counts
pub behind_255 : (rest : List ℕ) (n : ℕ) → n + 1 + big_endian (255 ∷ rest) ≡ 256 ^ suc (length rest) → n + 1 + big_endian rest ≡ 256 ^ length rest
behind_255 rest n h = omega (arith, h, big_endian-cons 255 rest, pow-suc 256 (length rest))

pub upto_255 : (rest : List ℕ) (n : ℕ) → n + 1 + big_endian rest ≡ 256 ^ length rest → n + 1 + big_endian (255 ∷ rest) ≡ 256 ^ suc (length rest)
upto_255 rest n h = omega (arith, h, big_endian-cons 255 rest, pow-suc 256 (length rest))

far : (a p b n : ℕ) → a < 255 → b < p → n + 1 + (a * p + b) ≡ p * 256 → p ≤ n + 1
far a p b n lt le e = grind arith

nine_low : (a : ℕ) (rest : List ℕ) (n : ℕ) → a < 255 → IsBytes rest → length rest ≡ 8 → n + 1 + big_endian (a ∷ rest) ≡ 256 ^ suc (length rest) → n < 2 ^ 63 → ⊥
nine_low a rest n lt fits len h small =
    let power : 256 ^ length rest ≡ 2 ^ 64 = rw len refl in
    let e : n + 1 + (a * 256 ^ length rest + big_endian rest) ≡ 256 ^ length rest * 256 = omega (arith, h, big_endian-cons a rest, pow-suc 256 (length rest)) in
    omega (arith, far a (256 ^ length rest) (big_endian rest) n lt (big_endian-below rest fits) e, power, small)

pub int_again : (content : List ℕ) → IsBytes content → (v : ℤ) → IsInt content v → int_at content ≡ Ok v
unfolding int_at
int_again [] fits v h = absurd h
int_again (a ∷ rest) fits (pos n) h =
    rw (ne_eqb a 255 (λ e. omega (arith, e, h.1)), lt-ltb a 128 h.1, uint_again (a ∷ rest) n (h.0, h.1, h.2, omega (arith, h.3)), lt-ltb n (2 ^ 63) h.3) refl
int_again (a ∷ rest) fits (negsuc n) h =
    elim (cases_eq a 255) [
      | inl same ↦
          let at : n + 1 + big_endian (255 ∷ rest) ≡ 256 ^ suc (length rest) = subst (λ (x : ℕ). n + 1 + big_endian (x ∷ rest) ≡ 256 ^ suc (length rest)) same h.2 in
          rw (eq-eqb a 255 same, le-ltb 8 (length rest) (omega (arith, h.0)), lacks rest n (behind_255 rest n at), lt-ltb n (2 ^ 63) h.3) refl
      | inr other ↦
          let short : length (a ∷ rest) ≤ 8 = elim (cases_lt (length rest) 8) [ inl lt ↦ omega arith | inr ge ↦ absurd (nine_low a rest n (omega (arith, other, fits 0)) (IsBytes-rest a rest fits) (omega (arith, h.0)) h.2 h.3) ] in
          rw (ne_eqb a 255 other, le-ltb a 128 h.1, le-ltb 8 (length (a ∷ rest)) short, lacks (a ∷ rest) n h.2, lt-ltb n (2 ^ 63) h.3) refl
    ]

abbrev IntTells : List ℕ → Result ℤ BerFault → Type 0
IntTells content (Ok v) = IsInt content v
IntTells content (Err f) = f ≡ BadNumber

after_uint : (a : ℕ) (rest : List ℕ) (r : Result ℕ BerFault) → UintTells (a ∷ rest) r → IntTells (a ∷ rest) (r >>= λ n. positive n)
after_uint a rest (Ok n) h =
    cond_both (ltb n (2 ^ 63)) (Ok (pos n)) (Err BadNumber) (λ r. IntTells (a ∷ rest) r) (λ e. (h.0, h.1, h.2, ltb-true n (2 ^ 63) e)) (λ e. refl)
after_uint a rest (Err f) h = h

negative_tells : (a : ℕ) (rest : List ℕ) (n : ℕ) → length (a ∷ rest) ≤ 9 → 128 ≤ a → n + 1 + big_endian (a ∷ rest) ≡ 256 ^ suc (length rest) → IntTells (a ∷ rest) (negative n)
negative_tells a rest n le hi h =
    cond_both (ltb n (2 ^ 63)) (Ok (negsuc n)) (Err BadNumber) (λ r. IntTells (a ∷ rest) r) (λ e. (le, hi, h, ltb-true n (2 ^ 63) e)) (λ e. refl)

lack_is : (xs : List ℕ) → IsBytes xs → lack xs + 1 + big_endian xs ≡ 256 ^ length xs
lack_is xs fits = omega (arith, big_endian-below xs fits)

int_tells : (content : List ℕ) → IsBytes content → IntTells content (int_at content)
unfolding int_at
int_tells [] fits = refl
int_tells (a ∷ rest) fits =
    cond_both (eqb a 255) (cond (ltb 8 (length rest)) (Err BadNumber) (negative (lack rest))) (cond (ltb a 128) (uint_at (a ∷ rest) >>= λ n. positive n) (cond (ltb 8 (length (a ∷ rest))) (Err BadNumber) (negative (lack (a ∷ rest))))) (λ r. IntTells (a ∷ rest) r)
    (λ e. let same = eqb-true a 255 e in
    cond_both (ltb 8 (length rest)) (Err BadNumber) (negative (lack rest)) (λ r. IntTells (a ∷ rest) r) (λ e. refl)
    (λ e. let le = ltb-false 8 (length rest) e in
    let at = upto_255 rest (lack rest) (lack_is rest (IsBytes-rest a rest fits)) in
    negative_tells a rest (lack rest) (omega (arith, le)) (omega (arith, same)) (subst (λ (x : ℕ). lack rest + 1 + big_endian (x ∷ rest) ≡ 256 ^ suc (length rest)) (sym same) at)))
    (λ e. cond_both (ltb a 128) (uint_at (a ∷ rest) >>= λ n. positive n) (cond (ltb 8 (length (a ∷ rest))) (Err BadNumber) (negative (lack (a ∷ rest)))) (λ r. IntTells (a ∷ rest) r)
    (λ e. after_uint a rest (uint_at (a ∷ rest)) (uint_tells (a ∷ rest) fits))
    (λ e. let hi = ltb-false a 128 e in
    cond_both (ltb 8 (length (a ∷ rest))) (Err BadNumber) (negative (lack (a ∷ rest))) (λ r. IntTells (a ∷ rest) r) (λ e. refl)
    (λ e. let le = ltb-false 8 (length (a ∷ rest)) e in negative_tells a rest (lack (a ∷ rest)) (omega (arith, le)) hi (lack_is (a ∷ rest) fits))))

pub int_found : (content : List ℕ) → IsBytes content → (v : ℤ) → int_at content ≡ Ok v → IsInt content v
int_found content fits v e = subst (λ (r : Result ℤ BerFault). IntTells content r) e (int_tells content fits)

int_fault : (content : List ℕ) → IsBytes content → (f : BerFault) → int_at content ≡ Err f → f ≡ BadNumber
int_fault content fits f e = subst (λ (r : Result ℤ BerFault). IntTells content r) e (int_tells content fits)

pub int_reads : {X : Type 0} (view : X → ℤ) (r : Result X BerFault) (content : List ℕ) → IsBytes content → Gives view r (int_at content) → Reads view r (IsInt content) (IsIntRefused content)
int_reads view r content fits g = reads_from view r (int_at content) (IsInt content) (IsIntRefused content) (one_refusal (int_at content) (IsInt content) BadNumber (int_found content fits) (int_again content fits) (int_fault content fits)) g
