-- One bit of a bit string.
use Rattle.std.proofs.Common.{◌≡◌, ℕ, zero, suc, ◌+◌, ◌-◌, ◌*◌, ◌/◌, ◌%◌, ◌^◌, ◌<◌, ◌≤◌, Bool, false, eqb, List, length, get_or, take, Some, None, refl, sym, ap, ◌∙◌, inl, inr, arith}
use Rattle.std.specs.Prelude.{IsTrue}
use Rattle.std.specs.List.{flat_map, slice_get}
use Rattle.std.proofs.Math.Nat.{div-one}
use Rattle.std.proofs.lemmas.Bool.{cases_lt, eqb-true}
use Rattle.std.proofs.lemmas.List.{get_or-take, length-take, length-take-le}
use Rattle.std.proofs.lemmas.List.Concat.{get_or-flat_map}
use Rattle.std.proofs.lemmas.Option.{slice_get-get_or, slice_get_past}
use Rattle.ber_grammar.specs.Content.{octet_bits, bits_of}
use Rattle.ber_grammar.proofs.BitLaws.{length-flat_bits}

pub length-bits_of : (unused : ℕ) (octets : List ℕ) → length (bits_of unused octets) ≡ 8 * length octets - unused
unfolding bits_of
length-bits_of unused octets = omega (arith, length-take (8 * length octets - unused) (flat_map octet_bits octets), length-flat_bits octets)

-- the bit of an octet
bit_in : (o j : ℕ) → j < 8 → get_or (octet_bits o) j false ≡ eqb (o / 2 ^ (7 - j) % 2) 1
bit_in o zero lt = refl
bit_in o (suc zero) lt = refl
bit_in o (suc (suc zero)) lt = refl
bit_in o (suc (suc (suc zero))) lt = refl
bit_in o (suc (suc (suc (suc zero)))) lt = refl
bit_in o (suc (suc (suc (suc (suc zero))))) lt = refl
bit_in o (suc (suc (suc (suc (suc (suc zero)))))) lt = refl
bit_in o (suc (suc (suc (suc (suc (suc (suc zero))))))) lt = ap (λ (x : ℕ). eqb (x % 2) 1) (sym (div-one o))
bit_in o (suc (suc (suc (suc (suc (suc (suc (suc j)))))))) lt = absurd (omega (arith, lt))

flat_bit : (octets : List ℕ) (k j : ℕ) → k < length octets → j < 8 → get_or (flat_map octet_bits octets) (8 * k + j) false ≡ eqb (get_or octets k 0 / 2 ^ (7 - j) % 2) 1
flat_bit octets k j lk lj =
    let before : length (flat_map octet_bits (take k octets)) ≡ 8 * k = omega (arith, length-flat_bits (take k octets), length-take-le k octets (omega (arith, lk))) in
    ap (λ (x : ℕ). get_or (flat_map octet_bits octets) (x + j) false) (sym before)
    ∙ get_or-flat_map octet_bits octets k j 0 false lk lj
    ∙ bit_in (get_or octets k 0) j lj

-- the bit at an index that is there
pub bit_there : (unused : ℕ) (octets : List ℕ) (i : ℕ) → i < 8 * length octets - unused → slice_get (bits_of unused octets) i ≡ Some (eqb (get_or octets (i / 8) 0 / 2 ^ (7 - i % 8) % 2) 1)
unfolding bits_of
bit_there unused octets i lt =
    let split : 8 * (i / 8) + i % 8 ≡ i = omega arith in
    let at : get_or (flat_map octet_bits octets) i false ≡ eqb (get_or octets (i / 8) 0 / 2 ^ (7 - i % 8) % 2) 1 =
    ap (λ (x : ℕ). get_or (flat_map octet_bits octets) x false) (sym split) ∙ flat_bit octets (i / 8) (i % 8) (omega arith) (omega arith) in
    slice_get-get_or (take (8 * length octets - unused) (flat_map octet_bits octets)) i false (omega (arith, lt, length-take (8 * length octets - unused) (flat_map octet_bits octets), length-flat_bits octets))
    ∙ ap (λ (x : Bool). Some x) (get_or-take (8 * length octets - unused) (flat_map octet_bits octets) i false lt ∙ at)

pub no_bit : (unused : ℕ) (octets : List ℕ) (i : ℕ) → 8 * length octets - unused ≤ i → slice_get (bits_of unused octets) i ≡ None
no_bit unused octets i le = slice_get_past (bits_of unused octets) i (omega (arith, le, length-bits_of unused octets))

-- No bit is left exactly where there is no octet, since at most seven are unused.
pub is_no_octet : (b : Bool) (unused n : ℕ) → b ≡ eqb n 0 → unused ≤ 7 → (n ≡ 0 → unused ≡ 0) → (IsTrue b → 8 * n - unused ≡ 0) × (8 * n - unused ≡ 0 → IsTrue b)
is_no_octet b unused zero e few none = rw e ((λ h. omega arith), (λ h. refl))
is_no_octet b unused (suc n) e few none = rw e ((λ h. absurd (omega (arith, eqb-true (suc n) 0 h))), (λ h. absurd (omega (arith, h, few))))

pub not_below : (i n : ℕ) → (i < n → IsTrue false) → n ≤ i
not_below i n h = elim (cases_lt i n) [ inl lt ↦ (let e = h lt in absurd cc) | inr ge ↦ ge ]
