-- No spelling of a number is shorter than the one that is written.
use Rattle.std.proofs.Common.{◌≡◌, ℕ, zero, suc, ◌+◌, ◌-◌, ◌^◌, ◌<◌, ◌≤◌, true, List, [], ◌∷◌, length, refl, sym, ap, subst, ◌∙◌, inl, inr, arith}
use Rattle.std.specs.Prelude.{ℤ, pos, negsuc}
use Rattle.std.specs.Int.{w64, to_be_bytes}
use Rattle.std.proofs.lemmas.Bool.{cases_lt, cond_both, lt-ltb, le-leb}
use Rattle.ber_grammar.specs.Octets.{IsBytes}
use Rattle.ber_grammar.specs.Content.{IsUint, IsInt}
use Rattle.ber_grammar.proofs.OctetLaws.{IsBytes-cons, big_endian-same}
use Rattle.ber_grammar.proofs.IntLaws.{upto_255}
use Rattle.ber_write.specs.Minimal.{IsWord, is_spare, strip_from, strip, uint_octets, nine_octets, int_octets}
use Rattle.ber_write.proofs.NumberLaws.{nine_spell, length-strip_from, big_endian-64, to_be_bytes-fit, nine_octets-fit}

-- as many octets that spell the same are the same
same_spelling : (a : ℕ) (rest : List ℕ) (b : ℕ) (more : List ℕ) (v : ℤ) → IsBytes (a ∷ rest) → IsBytes (b ∷ more) → length rest ≡ length more → IsInt (a ∷ rest) v → IsInt (b ∷ more) v → a ∷ rest ≡ b ∷ more
same_spelling a rest b more (pos n) fa fb len p q = big_endian-same (a ∷ rest) (b ∷ more) fa fb (omega (arith, len)) (sym p.2 ∙ q.2)
same_spelling a rest b more (negsuc n) fa fb len p q =
    let power : 256 ^ length (a ∷ rest) ≡ 256 ^ length (b ∷ more) = ap (λ (k : ℕ). 256 ^ suc k) len in
    big_endian-same (a ∷ rest) (b ∷ more) fa fb (omega (arith, len)) (omega (arith, p.2, q.2, power))

is_word : (a : ℕ) (rest : List ℕ) (v : ℤ) → IsInt (a ∷ rest) v → IsWord v
is_word a rest (pos n) h = h.3
is_word a rest (negsuc n) h = h.3

nine_same : (a : ℕ) (rest : List ℕ) (v : ℤ) → IsBytes (a ∷ rest) → length rest ≡ 8 → IsInt (a ∷ rest) v → a ∷ rest ≡ nine_octets v
nine_same a rest (pos n) fits len h = same_spelling a rest 0 (to_be_bytes w64 n) (pos n) fits (nine_octets-fit (pos n)) len h (nine_spell (pos n) (is_word a rest (pos n) h))
nine_same a rest (negsuc n) fits len h = same_spelling a rest 255 (to_be_bytes w64 (2 ^ 64 - 1 - n)) (negsuc n) fits (nine_octets-fit (negsuc n)) len h (nine_spell (negsuc n) (is_word a rest (negsuc n) h))

-- ---- one spare octet more

low_spare : (a : ℕ) → a < 128 → is_spare 0 a ≡ true
low_spare a lt = rw (lt-ltb a 128 lt) refl

high_spare : (a : ℕ) → 128 ≤ a → is_spare 255 a ≡ true
high_spare a le = rw (le-leb 128 a le) refl

low_more : (a : ℕ) (rest : List ℕ) (v : ℤ) → a < 128 → length (a ∷ rest) ≤ 8 → IsInt (a ∷ rest) v → IsInt (0 ∷ a ∷ rest) v
low_more a rest (pos n) lt le h = (omega (arith, le), omega arith, h.2, h.3)
low_more a rest (negsuc n) lt le h = absurd (omega (arith, lt, h.1))

high_more : (a : ℕ) (rest : List ℕ) (v : ℤ) → 128 ≤ a → length (a ∷ rest) ≤ 8 → IsInt (a ∷ rest) v → IsInt (255 ∷ a ∷ rest) v
high_more a rest (pos n) ge le h = absurd (omega (arith, ge, h.1))
high_more a rest (negsuc n) ge le h = (omega (arith, le), omega arith, upto_255 (a ∷ rest) n h.2, h.3)

at_spare : (s a : ℕ) (rest o : List ℕ) → is_spare s a ≡ true → strip_from s (a ∷ rest) ≡ o → strip_from a rest ≡ o
at_spare s a rest o e h = sym (rw e refl) ∙ h

-- all spellings are the same without their spare octets
stripped_same : (k a : ℕ) (rest : List ℕ) (v : ℤ) → length (a ∷ rest) + k ≡ 9 → IsBytes (a ∷ rest) → IsInt (a ∷ rest) v → strip_from a rest ≡ int_octets v
unfolding int_octets
stripped_same zero a rest v len fits h = ap strip (nine_same a rest v fits (omega (arith, len)) h)
stripped_same (suc k) a rest v len fits h =
    elim (cases_lt a 128) [
      | inl lt ↦ at_spare 0 a rest (int_octets v) (low_spare a lt) (stripped_same k 0 (a ∷ rest) v (omega (arith, len)) (IsBytes-cons 0 (a ∷ rest) (omega arith) fits) (low_more a rest v lt (omega (arith, len)) h))
      | inr ge ↦ at_spare 255 a rest (int_octets v) (high_spare a ge) (stripped_same k 255 (a ∷ rest) v (omega (arith, len)) (IsBytes-cons 255 (a ∷ rest) (omega arith) fits) (high_more a rest v ge (omega (arith, len)) h))
    ]

strip_from-whole : (a : ℕ) (rest : List ℕ) → length (a ∷ rest) ≡ length (strip_from a rest) → a ∷ rest ≡ strip_from a rest
strip_from-whole a [] len = refl
strip_from-whole a (b ∷ rest) len =
    cond_both (is_spare a b) (strip_from b rest) (a ∷ b ∷ rest) (λ o. length (a ∷ b ∷ rest) ≡ length o → a ∷ b ∷ rest ≡ o)
    (λ e l. absurd (omega (arith, l, length-strip_from b rest))) (λ e l. refl) len

shortest : (a : ℕ) (rest octets : List ℕ) → strip_from a rest ≡ octets → (length octets ≤ length (a ∷ rest)) × (length (a ∷ rest) ≡ length octets → a ∷ rest ≡ octets)
shortest a rest octets e = (subst (λ (o : List ℕ). length o ≤ length (a ∷ rest)) e (length-strip_from a rest), λ len. strip_from-whole a rest (len ∙ ap length (sym e)) ∙ e)

pub int_shortest : (content : List ℕ) (v : ℤ) → IsBytes content → IsInt content v → (length (int_octets v) ≤ length content) × (length content ≡ length (int_octets v) → content ≡ int_octets v)
int_shortest [] v fits h = absurd h
int_shortest (a ∷ rest) (pos n) fits h = shortest a rest (int_octets (pos n)) (stripped_same (9 - length (a ∷ rest)) a rest (pos n) (omega (arith, h.0)) fits h)
int_shortest (a ∷ rest) (negsuc n) fits h = shortest a rest (int_octets (negsuc n)) (stripped_same (9 - length (a ∷ rest)) a rest (negsuc n) (omega (arith, h.0)) fits h)

-- ---- unsigned

nine_unsigned : (a : ℕ) (rest : List ℕ) (n : ℕ) → IsBytes (a ∷ rest) → length rest ≡ 8 → IsUint (a ∷ rest) n → a ∷ rest ≡ 0 ∷ to_be_bytes w64 n
nine_unsigned a rest n fits len h = big_endian-same (a ∷ rest) (0 ∷ to_be_bytes w64 n) fits (IsBytes-cons 0 (to_be_bytes w64 n) (omega arith) (to_be_bytes-fit n)) (omega (arith, len)) (sym h.2 ∙ sym (big_endian-64 n h.3))

unsigned_same : (k a : ℕ) (rest : List ℕ) (n : ℕ) → length (a ∷ rest) + k ≡ 9 → IsBytes (a ∷ rest) → IsUint (a ∷ rest) n → strip_from a rest ≡ uint_octets n
unfolding uint_octets
unsigned_same zero a rest n len fits h = ap strip (nine_unsigned a rest n fits (omega (arith, len)) h)
unsigned_same (suc k) a rest n len fits h =
    at_spare 0 a rest (uint_octets n) (low_spare a h.1) (unsigned_same k 0 (a ∷ rest) n (omega (arith, len)) (IsBytes-cons 0 (a ∷ rest) (omega arith) fits) (omega (arith, len), omega arith, h.2, h.3))

pub uint_shortest : (content : List ℕ) (n : ℕ) → IsBytes content → IsUint content n → (length (uint_octets n) ≤ length content) × (length content ≡ length (uint_octets n) → content ≡ uint_octets n)
uint_shortest [] n fits h = absurd h
uint_shortest (a ∷ rest) n fits h = shortest a rest (uint_octets n) (unsigned_same (9 - length (a ∷ rest)) a rest n (omega (arith, h.0)) fits h)
