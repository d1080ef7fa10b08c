-- A line's text and its words.
use Rattle.std.proofs.Common.{◌≡◌, ℕ, zero, suc, ◌<◌, Bool, true, false, List, [], ◌∷◌, length, ◌==◌, refl, ap, ◌∙◌, arith, cond, ◌&&◌}
use Rattle.std.specs.List.{All, list_all, list_any, join_with_byte, onto_first}
use Rattle.std.proofs.lemmas.Bool.{and_parts, and_from, or_from, or_parts}
use Rattle.std.proofs.lemmas.Bool.Decides.{nat_tests}
use Rattle.std.proofs.lemmas.List.Folds.{list_all-append}
use Rattle.std.proofs.lemmas.List.Splits.{slice_split_at, slice_split_none}
use Rattle.text_words.specs.Values.{is_graphic}
use Rattle.text_words.specs.Words.{words_of}
use Rattle.text_words.specs.Octets.{is_printable}

abbrev pub is_space : ℕ → Bool
is_space octet = octet == 32

-- a word has octets 21 to 7E, and one at least
abbrev pub IsWord : List ℕ → Type 0
IsWord word = (0 < length word) × (list_all is_graphic word ≡ true)

abbrev pub AreWords : List (List ℕ) → Type 0
AreWords [] = Unit {0}
AreWords (word ∷ more) = IsWord word × AreWords more

graphic-apart : (octet : ℕ) → is_graphic octet ≡ true → is_space octet ≡ false
graphic-apart octet e = grind (arith, nat_tests)

graphic-printable : (octet : ℕ) → is_graphic octet ≡ true → is_printable octet ≡ true
graphic-printable octet e = grind (arith, nat_tests)

no-space : (word : List ℕ) → list_all is_graphic word ≡ true → All (λ octet. is_space octet ≡ false) word
no-space [] e k d lt = absurd (omega (arith, lt))
no-space (octet ∷ octets) e zero d lt = graphic-apart octet (and_parts _ _ e).0
no-space (octet ∷ octets) e (suc k) d lt = no-space octets (and_parts _ _ e).1 k d (omega (arith, lt))

word-printable : (word : List ℕ) → list_all is_graphic word ≡ true → list_all is_printable word ≡ true
word-printable [] e = refl
word-printable (octet ∷ octets) e = and_from _ _ (graphic-printable octet (and_parts _ _ e).0) (word-printable octets (and_parts _ _ e).1)

pub split-joined : (word : List ℕ) (more : List (List ℕ)) → AreWords (word ∷ more) → words_of (join_with_byte 32 (word ∷ more)) ≡ word ∷ more
split-joined word [] are = slice_split_none is_space word (no-space word are.0.1)
split-joined word (next ∷ more) are = slice_split_at is_space word 32 (join_with_byte 32 (next ∷ more)) (no-space word are.0.1) refl
    ∙ ap (λ (ws : List (List ℕ)). word ∷ ws) (split-joined next more are.1)

pub joined-printable : (words : List (List ℕ)) → AreWords words → list_all is_printable (join_with_byte 32 words) ≡ true
joined-printable [] are = refl
joined-printable (word ∷ []) are = word-printable word are.0.1
joined-printable (word ∷ next ∷ more) are = list_all-append is_printable word (32 ∷ join_with_byte 32 (next ∷ more))
    ∙ and_from _ _ (word-printable word are.0.1) (joined-printable (next ∷ more) are.1)

pub none-empty : (words : List (List ℕ)) → AreWords words → list_any (λ w. length w == 0) words ≡ false
none-empty [] are = refl
none-empty (word ∷ more) are = let some : (length word == 0) ≡ false = grind (arith, nat_tests, are.0.0) in or_from _ _ some (none-empty more are.1)

-- what stands between the spaces of a line
pub split-words : (text : List ℕ) → list_all is_printable text ≡ true → list_all (λ word. list_all is_graphic word) (words_of text) ≡ true
split-words [] e = refl
split-words (octet ∷ octets) e = by (octet == 32) refl (split-words octets (and_parts _ _ e).1)
  where
    visible : (octet : ℕ) → is_printable octet ≡ true → (octet == 32) ≡ false → is_graphic octet ≡ true
    visible octet e other = grind (arith, nat_tests)

    onto : (octet : ℕ) (ws : List (List ℕ)) → is_graphic octet ≡ true → list_all (λ word. list_all is_graphic word) ws ≡ true → list_all (λ word. list_all is_graphic word) (onto_first octet ws) ≡ true
    onto octet [] o e = ap (λ b. (b && true) && true) o
    onto octet (w ∷ ws) o e = ap (λ b. (b && list_all is_graphic w) && list_all (λ word. list_all is_graphic word) ws) o ∙ e

    by : (b : Bool) → (octet == 32) ≡ b → list_all (λ word. list_all is_graphic word) (words_of octets) ≡ true → list_all (λ word. list_all is_graphic word) (cond b ([] ∷ words_of octets) (onto_first octet (words_of octets))) ≡ true
    by true at more = more
    by false at more = onto octet (words_of octets) (visible octet (and_parts _ _ e).0 at) more

pub are-words : (ws : List (List ℕ)) → list_all (λ word. list_all is_graphic word) ws ≡ true → list_any (λ w. length w == 0) ws ≡ false → AreWords ws
are-words [] e none = tt
are-words (w ∷ ws) e none =
    let some = or_parts (length w == 0) (list_any (λ w. length w == 0) ws) none in
    let both = and_parts (list_all is_graphic w) (list_all (λ word. list_all is_graphic word) ws) e in
    let long : 0 < length w = by w some.0 in
    ((long, both.0), are-words ws both.1 some.1)
  where
    by : (w : List ℕ) → (length w == 0) ≡ false → 0 < length w
    by w none = grind (arith, nat_tests)
