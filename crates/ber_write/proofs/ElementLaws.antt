-- What is written is the one minimal spelling.
use Rattle.std.proofs.Common.{◌≡◌, ℕ, zero, suc, ◌+◌, ◌*◌, ◌/◌, ◌%◌, ◌^◌, ◌<◌, ◌≤◌, cond, ltb, List, [], ◌∷◌, ◌++◌, length, Ok, refl, sym, ap, subst, ◌∙◌, arith}
use Rattle.std.proofs.lemmas.Bool.{ltb-true, lt-ltb, le-ltb, cond_both}
use Rattle.std.proofs.lemmas.List.{length-append}
use Rattle.ber_grammar.specs.Octets.{IsBytes}
use Rattle.ber_grammar.specs.Element.{Element, IsTag, IsLength, Spells, Begins}
use Rattle.ber_grammar.specs.Reading.{first_at}
use Rattle.ber_grammar.proofs.OctetLaws.{IsBytes-front, IsBytes-back}
use Rattle.ber_grammar.proofs.ElementLaws.{first_again}
use Rattle.ber_write.specs.Minimal.{written, tag_octets, length_octets, octets_of, CanBeTag}
use Rattle.ber_write.proofs.LengthLaws.{at_most_five, at_most_four, at_most_three, at_most_two, length-octets_of}

-- a tag has at most three octets
tag_below_at : (a b c t : ℕ) → a < 256 → b < 256 → c < 256 → t ≡ (a * 256 + b) * 256 + c → t < 2 ^ 24
tag_below_at a b c t ha hb hc e = omega arith

pub tag_below : (t : ℕ) → CanBeTag t → t < 2 ^ 24
tag_below t =
    cond_both (ltb t 256) (t ∷ []) (cond (ltb t 65536) (t / 256 ∷ t % 256 ∷ []) (t / 65536 % 256 ∷ t / 256 % 256 ∷ t % 256 ∷ [])) (λ o. IsTag o t → t < 2 ^ 24)
    (λ e h. let lt = ltb-true t 256 e in omega (arith, lt))
    (λ e. cond_both (ltb t 65536) (t / 256 ∷ t % 256 ∷ []) (t / 65536 % 256 ∷ t / 256 % 256 ∷ t % 256 ∷ []) (λ o. IsTag o t → t < 2 ^ 24)
    (λ e h. let lt = ltb-true t 65536 e in omega (arith, lt))
    (λ e h. omega (arith, h.3)))

-- ---- it is a spelling

-- division in steps, as written
pub length_spelled : (n : ℕ) → n < 2 ^ 32 → IsLength (length_octets n) n
length_spelled n small =
    cond_both (ltb n 128) (n ∷ []) (cond (ltb n 256) (129 ∷ n ∷ []) (cond (ltb n 65536) (130 ∷ n / 256 ∷ n % 256 ∷ []) (cond (ltb n 16777216) (131 ∷ n / 65536 ∷ n / 256 % 256 ∷ n % 256 ∷ []) (132 ∷ n / 16777216 ∷ n / 65536 % 256 ∷ n / 256 % 256 ∷ n % 256 ∷ [])))) (λ o. IsLength o n)
    (λ e. (ltb-true n 128 e, refl))
    (λ e. cond_both (ltb n 256) (129 ∷ n ∷ []) (cond (ltb n 65536) (130 ∷ n / 256 ∷ n % 256 ∷ []) (cond (ltb n 16777216) (131 ∷ n / 65536 ∷ n / 256 % 256 ∷ n % 256 ∷ []) (132 ∷ n / 16777216 ∷ n / 65536 % 256 ∷ n / 256 % 256 ∷ n % 256 ∷ []))) (λ o. IsLength o n)
    (λ e. (refl, omega arith, omega arith))
    (λ e. cond_both (ltb n 65536) (130 ∷ n / 256 ∷ n % 256 ∷ []) (cond (ltb n 16777216) (131 ∷ n / 65536 ∷ n / 256 % 256 ∷ n % 256 ∷ []) (132 ∷ n / 16777216 ∷ n / 65536 % 256 ∷ n / 256 % 256 ∷ n % 256 ∷ [])) (λ o. IsLength o n)
    (λ e. (refl, omega arith, omega arith))
    (λ e. cond_both (ltb n 16777216) (131 ∷ n / 65536 ∷ n / 256 % 256 ∷ n % 256 ∷ []) (132 ∷ n / 16777216 ∷ n / 65536 % 256 ∷ n / 256 % 256 ∷ n % 256 ∷ []) (λ o. IsLength o n)
    (λ e. (refl, omega arith, omega arith))
    (λ e. (refl, omega arith, omega arith)))))

pub is_spelling : (tag : ℕ) (content : List ℕ) → CanBeTag tag → length content < 2 ^ 32
    → Spells (octets_of tag content) (written tag content)
is_spelling tag content is_tag small = record { tag = tag_octets tag; len = length_octets (length content); is_tag = is_tag; is_length = length_spelled (length content) small; head = refl; whole = refl }

-- ---- no spelling is shorter, and none as short is another

two : (a b t : ℕ) → a < 256 → 31 ≤ a → b < 256 → t ≡ a * 256 + b → a ∷ b ∷ [] ≡ tag_octets t
two a b t ha lo hb e =
    let high : t / 256 ≡ a = omega arith in
    let low : t % 256 ≡ b = omega arith in
    rw (le-ltb t 256 (omega arith), lt-ltb t 65536 (omega arith), high, low) refl

three : (a b c t : ℕ) → a < 256 → 31 ≤ a → b < 256 → 128 ≤ b → c < 256 → t ≡ (a * 256 + b) * 256 + c → a ∷ b ∷ c ∷ [] ≡ tag_octets t
three a b c t ha lo hb mid hc e =
    let high : t / 65536 % 256 ≡ a = omega arith in
    let middle : t / 256 % 256 ≡ b = omega arith in
    let low : t % 256 ≡ c = omega arith in
    rw (le-ltb t 256 (omega arith), le-ltb t 65536 (omega arith), high, middle, low) refl

one_tag : (o : List ℕ) (t : ℕ) → IsBytes o → IsTag o t → o ≡ tag_octets t
one_tag [] t fits h = absurd h
one_tag (a ∷ []) t fits h = rw (h.1, lt-ltb a 256 (fits 0)) refl
one_tag (a ∷ b ∷ []) t fits h = two a b t (fits 0) (omega (arith, h.0)) (omega (arith, h.1)) h.2
one_tag (a ∷ b ∷ c ∷ []) t fits h = three a b c t (fits 0) (omega (arith, h.0)) (fits 1) (omega (arith, h.1)) (omega (arith, h.2)) h.3
one_tag (a ∷ b ∷ c ∷ d ∷ more) t fits h = absurd h

-- the only length field of n octets
abbrev form : ℕ → ℕ → List ℕ
form (suc zero) n = n ∷ []
form (suc (suc zero)) n = 129 ∷ n ∷ []
form (suc (suc (suc zero))) n = 130 ∷ n / 256 ∷ n % 256 ∷ []
form (suc (suc (suc (suc zero)))) n = 131 ∷ n / 65536 ∷ n / 256 % 256 ∷ n % 256 ∷ []
form k n = 132 ∷ n / 16777216 ∷ n / 65536 % 256 ∷ n / 256 % 256 ∷ n % 256 ∷ []

-- what has that form and is a length field, is the form
two_at : (a b n : ℕ) → a ≡ 129 → n ≡ b → a ∷ b ∷ [] ≡ form 2 n
two_at a b n p q = rw (p, q) refl

three_at : (a b c n : ℕ) → a ≡ 130 → b < 256 → c < 256 → n ≡ b * 256 + c → a ∷ b ∷ c ∷ [] ≡ form 3 n
three_at a b c n p hb hc q =
    let high : n / 256 ≡ b = omega arith in
    let low : n % 256 ≡ c = omega arith in
    rw (p, high, low) refl

four_at : (a b c d n : ℕ) → a ≡ 131 → b < 256 → c < 256 → d < 256 → n ≡ (b * 256 + c) * 256 + d → a ∷ b ∷ c ∷ d ∷ [] ≡ form 4 n
four_at a b c d n p hb hc hd q =
    let high : n / 65536 ≡ b = omega arith in
    let middle : n / 256 % 256 ≡ c = omega arith in
    let low : n % 256 ≡ d = omega arith in
    rw (p, high, middle, low) refl

five_at : (a b c d e n : ℕ) → a ≡ 132 → b < 256 → c < 256 → d < 256 → e < 256 → n ≡ ((b * 256 + c) * 256 + d) * 256 + e → a ∷ b ∷ c ∷ d ∷ e ∷ [] ≡ form 5 n
five_at a b c d e n p hb hc hd he q =
    let high : n / 16777216 ≡ b = omega arith in
    let middle : n / 65536 % 256 ≡ c = omega arith in
    let third : n / 256 % 256 ≡ d = omega arith in
    let low : n % 256 ≡ e = omega arith in
    rw (p, high, middle, third, low) refl

one_form : (l : List ℕ) (n : ℕ) → IsBytes l → IsLength l n → (l ≡ form (length l) n) × (length (length_octets n) ≤ length l)
one_form [] n fits h = absurd h
one_form (a ∷ []) n fits h = (rw (h.1) refl, rw (lt-ltb n 128 (omega (arith, h.0, h.1))) (omega arith))
one_form (a ∷ b ∷ []) n fits h = (two_at a b n (omega (arith, h.0)) (omega (arith, h.2)), at_most_two n (omega (arith, h.2, fits 1)))
one_form (a ∷ b ∷ c ∷ []) n fits h = (three_at a b c n (omega (arith, h.0)) (fits 1) (fits 2) (omega (arith, h.2)), at_most_three n (omega (arith, h.2, fits 1, fits 2)))
one_form (a ∷ b ∷ c ∷ d ∷ []) n fits h = (four_at a b c d n (omega (arith, h.0)) (fits 1) (fits 2) (fits 3) (omega (arith, h.2)), at_most_four n (omega (arith, h.2, fits 1, fits 2, fits 3)))
one_form (a ∷ b ∷ c ∷ d ∷ e ∷ []) n fits h = (five_at a b c d e n (omega (arith, h.0)) (fits 1) (fits 2) (fits 3) (fits 4) (omega (arith, h.2)), at_most_five n)
one_form (a ∷ b ∷ c ∷ d ∷ e ∷ f ∷ more) n fits h = absurd (omega (arith, h.1))

form_of : (n : ℕ) → length_octets n ≡ form (length (length_octets n)) n
form_of n =
    cond_both (ltb n 128) (n ∷ []) (cond (ltb n 256) (129 ∷ n ∷ []) (cond (ltb n 65536) (130 ∷ n / 256 ∷ n % 256 ∷ []) (cond (ltb n 16777216) (131 ∷ n / 65536 ∷ n / 256 % 256 ∷ n % 256 ∷ []) (132 ∷ n / 16777216 ∷ n / 65536 % 256 ∷ n / 256 % 256 ∷ n % 256 ∷ [])))) (λ o. o ≡ form (length o) n)
    (λ e. refl)
    (λ e. cond_both (ltb n 256) (129 ∷ n ∷ []) (cond (ltb n 65536) (130 ∷ n / 256 ∷ n % 256 ∷ []) (cond (ltb n 16777216) (131 ∷ n / 65536 ∷ n / 256 % 256 ∷ n % 256 ∷ []) (132 ∷ n / 16777216 ∷ n / 65536 % 256 ∷ n / 256 % 256 ∷ n % 256 ∷ []))) (λ o. o ≡ form (length o) n)
    (λ e. refl)
    (λ e. cond_both (ltb n 65536) (130 ∷ n / 256 ∷ n % 256 ∷ []) (cond (ltb n 16777216) (131 ∷ n / 65536 ∷ n / 256 % 256 ∷ n % 256 ∷ []) (132 ∷ n / 16777216 ∷ n / 65536 % 256 ∷ n / 256 % 256 ∷ n % 256 ∷ [])) (λ o. o ≡ form (length o) n)
    (λ e. refl)
    (λ e. cond_both (ltb n 16777216) (131 ∷ n / 65536 ∷ n / 256 % 256 ∷ n % 256 ∷ []) (132 ∷ n / 16777216 ∷ n / 65536 % 256 ∷ n / 256 % 256 ∷ n % 256 ∷ []) (λ o. o ≡ form (length o) n)
    (λ e. refl)
    (λ e. refl))))

one_length : (l : List ℕ) (n : ℕ) → IsBytes l → IsLength l n → length l ≡ length (length_octets n) → l ≡ length_octets n
one_length l n fits h same = (one_form l n fits h).0 ∙ ap (λ (k : ℕ). form k n) same ∙ sym (form_of n)

pub is_minimal : (octets : List ℕ) (e : Element) → IsBytes octets → Spells octets e
    → (length (octets_of e.tag e.content) ≤ length octets) × (length octets ≡ length (octets_of e.tag e.content) → octets ≡ octets_of e.tag e.content)
is_minimal octets e fits s =
    let whole : IsBytes (s.tag ++ (s.len ++ e.content)) = subst IsBytes s.whole fits in
    let tag = one_tag s.tag e.tag (IsBytes-front s.tag (s.len ++ e.content) whole) s.is_tag in
    let len_fits = IsBytes-front s.len e.content (IsBytes-back s.tag (s.len ++ e.content) whole) in
    let shorter = (one_form s.len (length e.content) len_fits s.is_length).1 in
    let count : length octets ≡ length (tag_octets e.tag) + (length s.len + length e.content) =
    ap length s.whole ∙ length-append s.tag (s.len ++ e.content) ∙ rw (length-append s.len e.content, tag) refl in
    let least : length (octets_of e.tag e.content) ≡ length (tag_octets e.tag) + (length (length_octets (length e.content)) + length e.content) =
    length-octets_of e.tag e.content in (
      omega arith,
      λ same.
          let len = one_length s.len (length e.content) len_fits s.is_length (omega arith) in
          s.whole ∙ rw (tag, len) refl,
    )

pub read_back : (tag : ℕ) (content rest : List ℕ) → CanBeTag tag → length content < 2 ^ 32
    → Begins (octets_of tag content ++ rest) (written tag content) rest
read_back tag content rest is_tag small = (octets_of tag content, is_spelling tag content is_tag small, refl)

pub again : (tag : ℕ) (content rest : List ℕ) → CanBeTag tag → length content < 2 ^ 32 → first_at (octets_of tag content ++ rest) ≡ Ok (written tag content, rest)
again tag content rest is_tag small = first_again (octets_of tag content) rest (written tag content) (is_spelling tag content is_tag small)

-- a tag that is spelled can be written
pub spelled_tag : (octets : List ℕ) (e : Element) → IsBytes octets → Spells octets e → CanBeTag e.tag
spelled_tag octets e fits s =
    let whole : IsBytes (s.tag ++ (s.len ++ e.content)) = subst IsBytes s.whole fits in
    let tag = one_tag s.tag e.tag (IsBytes-front s.tag (s.len ++ e.content) whole) s.is_tag in
    subst (λ (o : List ℕ). IsTag o e.tag) tag s.is_tag
