-- What is written of a number spells it, with no octet to spare.
use Rattle.std.proofs.Common.{◌≡◌, ℕ, zero, suc, ◌+◌, ◌-◌, ◌^◌, ◌<◌, ◌≤◌, true, ◌&&◌, eqb, ltb, leb, List, [], ◌∷◌, length, Ok, sym, ap, subst, ◌∙◌, inl, inr, arith}
use Rattle.std.specs.Prelude.{ℤ, pos, negsuc}
use Rattle.std.specs.Int.{w64, to_be_bytes}
use Rattle.std.proofs.lemmas.Bool.{cond_both, or_cases, and_parts, eqb-true, ltb-true, leb-true}
use Rattle.std.proofs.lemmas.Nat.{from_be_bytes-to_be_bytes_8}
use Rattle.ber_grammar.specs.Octets.{big_endian, IsBytes}
use Rattle.ber_grammar.specs.Reading.{int_at, uint_at}
use Rattle.ber_grammar.proofs.OctetLaws.{IsBytes-rest, IsBytes-cons}
use Rattle.ber_grammar.specs.Content.{IsUint, IsInt}
use Rattle.ber_grammar.proofs.IntLaws.{behind_255, upto_255, int_again}
use Rattle.ber_grammar.proofs.UintLaws.{uint_again}
use Rattle.ber_write.specs.Minimal.{HasNoSpare, IsWord, is_spare, strip_from, uint_octets, nine_octets, int_octets, octets_of}
use Rattle.ber_write.proofs.LengthLaws.{octets_short}

pub big_endian-64 : (n : ℕ) → n < 2 ^ 64 → big_endian (to_be_bytes w64 n) ≡ n
big_endian-64 n lt = omega (arith, from_be_bytes-to_be_bytes_8 n lt)

-- one spare octet less spells the same
one_less : (a b : ℕ) (rest : List ℕ) (v : ℤ) → is_spare a b ≡ true → IsInt (a ∷ b ∷ rest) v → IsInt (b ∷ rest) v
one_less a b rest (pos n) e h =
    elim (or_cases (eqb a 0 && ltb b 128) (eqb a 255 && leb 128 b) e) [
      | inl p ↦ let q = and_parts (eqb a 0) (ltb b 128) p in
          let zero-is : a ≡ 0 = eqb-true a 0 q.0 in
          (omega (arith, h.0), ltb-true b 128 q.1, h.2 ∙ ap (λ (x : ℕ). big_endian (x ∷ b ∷ rest)) zero-is, h.3)
      | inr p ↦ let q = and_parts (eqb a 255) (leb 128 b) p in
          let full : a ≡ 255 = eqb-true a 255 q.0 in
          absurd (omega (arith, h.1, full))
    ]
one_less a b rest (negsuc n) e h =
    elim (or_cases (eqb a 0 && ltb b 128) (eqb a 255 && leb 128 b) e) [
      | inl p ↦ let q = and_parts (eqb a 0) (ltb b 128) p in
          let zero-is : a ≡ 0 = eqb-true a 0 q.0 in
          absurd (omega (arith, h.1, zero-is))
      | inr p ↦ let q = and_parts (eqb a 255) (leb 128 b) p in
          let full : a ≡ 255 = eqb-true a 255 q.0 in
          (omega (arith, h.0), leb-true 128 b q.1, behind_255 (b ∷ rest) n (subst (λ (x : ℕ). n + 1 + big_endian (x ∷ b ∷ rest) ≡ 256 ^ suc (length (b ∷ rest))) full h.2), h.3)
    ]

strip_from-spells : (a : ℕ) (rest : List ℕ) (v : ℤ) → IsInt (a ∷ rest) v → IsInt (strip_from a rest) v
strip_from-spells a [] v h = h
strip_from-spells a (b ∷ rest) v h =
    cond_both (is_spare a b) (strip_from b rest) (a ∷ b ∷ rest) (λ o. IsInt o v) (λ e. strip_from-spells b rest v (one_less a b rest v e h)) (λ e. h)

strip_from-none_spare : (a : ℕ) (rest : List ℕ) → HasNoSpare (strip_from a rest)
strip_from-none_spare a [] = tt
strip_from-none_spare a (b ∷ rest) = cond_both (is_spare a b) (strip_from b rest) (a ∷ b ∷ rest) (λ o. HasNoSpare o) (λ e. strip_from-none_spare b rest) (λ e. e)

pub nine_spell : (v : ℤ) → IsWord v → IsInt (nine_octets v) v
nine_spell (pos n) small = (omega arith, omega arith, sym (big_endian-64 n (omega (arith, small))), small)
nine_spell (negsuc n) small =
    let rest = to_be_bytes w64 (2 ^ 64 - 1 - n) in
    let value : big_endian rest ≡ 2 ^ 64 - 1 - n = big_endian-64 (2 ^ 64 - 1 - n) (omega arith) in
    (omega arith, omega arith, upto_255 rest n (omega (arith, value, small)), small)

pub int_octets-spell : (v : ℤ) → IsWord v → IsInt (int_octets v) v × HasNoSpare (int_octets v)
unfolding int_octets
int_octets-spell (pos n) small = (strip_from-spells 0 (to_be_bytes w64 n) (pos n) (nine_spell (pos n) small), strip_from-none_spare 0 (to_be_bytes w64 n))
int_octets-spell (negsuc n) small = (strip_from-spells 255 (to_be_bytes w64 (2 ^ 64 - 1 - n)) (negsuc n) (nine_spell (negsuc n) small), strip_from-none_spare 255 (to_be_bytes w64 (2 ^ 64 - 1 - n)))

one_less_unsigned : (a b : ℕ) (rest : List ℕ) (n : ℕ) → is_spare a b ≡ true → IsUint (a ∷ b ∷ rest) n → IsUint (b ∷ rest) n
one_less_unsigned a b rest n e h =
    elim (or_cases (eqb a 0 && ltb b 128) (eqb a 255 && leb 128 b) e) [
      | inl p ↦ let q = and_parts (eqb a 0) (ltb b 128) p in
          let zero-is : a ≡ 0 = eqb-true a 0 q.0 in
          (omega (arith, h.0), ltb-true b 128 q.1, h.2 ∙ ap (λ (x : ℕ). big_endian (x ∷ b ∷ rest)) zero-is, h.3)
      | inr p ↦ let q = and_parts (eqb a 255) (leb 128 b) p in
          let full : a ≡ 255 = eqb-true a 255 q.0 in
          absurd (omega (arith, h.1, full))
    ]

strip_from-spells_unsigned : (a : ℕ) (rest : List ℕ) (n : ℕ) → IsUint (a ∷ rest) n → IsUint (strip_from a rest) n
strip_from-spells_unsigned a [] n h = h
strip_from-spells_unsigned a (b ∷ rest) n h =
    cond_both (is_spare a b) (strip_from b rest) (a ∷ b ∷ rest) (λ o. IsUint o n) (λ e. strip_from-spells_unsigned b rest n (one_less_unsigned a b rest n e h)) (λ e. h)

pub uint_octets-spell : (n : ℕ) → n < 2 ^ 64 → IsUint (uint_octets n) n × HasNoSpare (uint_octets n)
unfolding uint_octets
uint_octets-spell n small = (strip_from-spells_unsigned 0 (to_be_bytes w64 n) n (omega arith, omega arith, sym (big_endian-64 n small), small), strip_from-none_spare 0 (to_be_bytes w64 n))

pub length-strip_from : (a : ℕ) (rest : List ℕ) → length (strip_from a rest) ≤ length (a ∷ rest)
length-strip_from a [] = omega arith
length-strip_from a (b ∷ rest) = cond_both (is_spare a b) (strip_from b rest) (a ∷ b ∷ rest) (λ o. length o ≤ length (a ∷ b ∷ rest)) (λ e. omega (arith, length-strip_from b rest)) (λ e. omega arith)

pub length-uint_octets : (n : ℕ) → length (uint_octets n) ≤ 9
unfolding uint_octets
length-uint_octets n = length-strip_from 0 (to_be_bytes w64 n)

pub uint_short : (n : ℕ) → length (uint_octets n) < 2 ^ 32
uint_short n = omega (arith, length-uint_octets n)

pub number_short : (tag n : ℕ) → length (octets_of tag (uint_octets n)) ≤ 17
number_short tag n = omega (arith, octets_short tag (uint_octets n), length-uint_octets n)

pub length-int_octets : (v : ℤ) → length (int_octets v) ≤ 9
unfolding int_octets
length-int_octets (pos n) = length-strip_from 0 (to_be_bytes w64 n)
length-int_octets (negsuc n) = length-strip_from 255 (to_be_bytes w64 (2 ^ 64 - 1 - n))

-- ---- what is written is read back

strip_from-fits : (a : ℕ) (rest : List ℕ) → IsBytes (a ∷ rest) → IsBytes (strip_from a rest)
strip_from-fits a [] fits = fits
strip_from-fits a (b ∷ rest) fits = cond_both (is_spare a b) (strip_from b rest) (a ∷ b ∷ rest) (λ o. IsBytes o) (λ e. strip_from-fits b rest (IsBytes-rest a (b ∷ rest) fits)) (λ e. fits)

pub to_be_bytes-fit : (n : ℕ) → IsBytes (to_be_bytes w64 n)
to_be_bytes-fit n zero = omega arith
to_be_bytes-fit n (suc zero) = omega arith
to_be_bytes-fit n (suc (suc zero)) = omega arith
to_be_bytes-fit n (suc (suc (suc zero))) = omega arith
to_be_bytes-fit n (suc (suc (suc (suc zero)))) = omega arith
to_be_bytes-fit n (suc (suc (suc (suc (suc zero))))) = omega arith
to_be_bytes-fit n (suc (suc (suc (suc (suc (suc zero)))))) = omega arith
to_be_bytes-fit n (suc (suc (suc (suc (suc (suc (suc zero))))))) = omega arith
to_be_bytes-fit n (suc (suc (suc (suc (suc (suc (suc (suc i)))))))) = omega arith

pub nine_octets-fit : (v : ℤ) → IsBytes (nine_octets v)
nine_octets-fit (pos n) = IsBytes-cons 0 (to_be_bytes w64 n) (omega arith) (to_be_bytes-fit n)
nine_octets-fit (negsuc n) = IsBytes-cons 255 (to_be_bytes w64 (2 ^ 64 - 1 - n)) (omega arith) (to_be_bytes-fit (2 ^ 64 - 1 - n))

pub int_octets-fit : (v : ℤ) → IsBytes (int_octets v)
unfolding int_octets
int_octets-fit (pos n) = strip_from-fits 0 (to_be_bytes w64 n) (nine_octets-fit (pos n))
int_octets-fit (negsuc n) = strip_from-fits 255 (to_be_bytes w64 (2 ^ 64 - 1 - n)) (nine_octets-fit (negsuc n))

pub signed_written : (v : ℤ) → IsWord v → IsInt (int_octets v) v × HasNoSpare (int_octets v) × (int_at (int_octets v) ≡ Ok v)
signed_written v small = let p = int_octets-spell v small in (p.0, p.1, int_again (int_octets v) (int_octets-fit v) v p.0)

pub unsigned_written : (n : ℕ) → n < 2 ^ 64 → IsUint (uint_octets n) n × HasNoSpare (uint_octets n) × (uint_at (uint_octets n) ≡ Ok n)
unsigned_written n small = let p = uint_octets-spell n small in (p.0, p.1, uint_again (uint_octets n) n p.0)
