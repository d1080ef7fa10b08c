-- Words that ask for a made record.
use Rattle.std.proofs.Common.{◌≡◌, ◌≤◌, ◌<◌, ℕ, List, [], ◌∷◌, length, map, get_or, refl, sym, ap, ◌∙◌, arith, Bool, true, false}
use Rattle.std.specs.Prelude.{String, Option, Some, None, decimal, not}
use Rattle.std.specs.String.{string_bytes}
use Rattle.std.specs.Str.{bytes_eq}
use Rattle.std.specs.declared.alloc.Global.{Global}
use Rattle.std.proofs.lemmas.Slice.Eq.{bytes_eq-Decides}
use Rattle.text_words.specs.Numbers.{number_at, number_within}
use Rattle.text_words.proofs.NumberLaws.{number_at-decimal, number_at-tells}
use Rattle.text_words.proofs.ReadWordLaws.{number-tells}
use Rattle.text_words.proofs.SpelledWordLaws.{number-within}
use Rattle.replay_run.specs.declared.made.Asked.{Asked}
use Rattle.replay_run.specs.Made.{Asks}

three : (words : List (String Global)) (w s c : String Global) → 3 ≤ length words → length words < 4 → w ≡ get_or words 0 w → s ≡ get_or words 1 s → c ≡ get_or words 2 c → words ≡ w ∷ s ∷ c ∷ []
three [] w s c low high w-is s-is c-is = absurd (omega (arith, low))
three (a ∷ []) w s c low high w-is s-is c-is = absurd (omega (arith, low))
three (a ∷ b ∷ []) w s c low high w-is s-is c-is = absurd (omega (arith, low))
three (a ∷ b ∷ d ∷ []) w s c low high w-is s-is c-is = rw (w-is, s-is, c-is) refl
three (a ∷ b ∷ d ∷ e ∷ rest) w s c low high w-is s-is c-is = absurd (omega (arith, high))

-- the octets of three words
pub octets_of : (words : List (String Global)) (w s c : String Global) → 3 ≤ length words → length words < 4 → w ≡ get_or words 0 w → s ≡ get_or words 1 s → c ≡ get_or words 2 c
    → map string_bytes words ≡ string_bytes w ∷ string_bytes s ∷ string_bytes c ∷ []
octets_of words w s c low high w-is s-is c-is = ap (map string_bytes) (three words w s c low high w-is s-is c-is)

parts : (a b c x y z : List ℕ) → ◌≡◌ {A = List (List ℕ)} (a ∷ b ∷ c ∷ []) (x ∷ y ∷ z ∷ []) → (a ≡ x) × (b ≡ y) × (c ≡ z)
parts a b c x y z h = (cc, cc, cc)

-- what is asked for spells each word
asked-parts : (wanted : List ℕ) (words : List (String Global)) (w s c : List ℕ) (seed count : ℕ) → map string_bytes words ≡ w ∷ s ∷ c ∷ [] → Asks wanted words seed count → (w ≡ wanted) × (s ≡ decimal seed) × (c ≡ decimal count)
asked-parts wanted words w s c seed count are a = parts w s c wanted (decimal seed) (decimal count) (sym are ∙ a.0)

pub another_word : (wanted : List ℕ) (words : List (String Global)) (w s c text : List ℕ) (seed count : ℕ) → map string_bytes words ≡ w ∷ s ∷ c ∷ [] → text ≡ w → not (bytes_eq text wanted) ≡ true → Asks wanted words seed count → ⊥
another_word wanted words w s c text seed count are is differs a =
    let same : bytes_eq text wanted ≡ true = (bytes_eq-Decides text wanted).1 (is ∙ (asked-parts wanted words w s c seed count are a).0) in absurd (cc)

pub no_seed : (wanted : List ℕ) (words : List (String Global)) (w s c : List ℕ) (seed count : ℕ) → map string_bytes words ≡ w ∷ s ∷ c ∷ [] → number_at s ≡ None → Asks wanted words seed count → ⊥
no_seed wanted words w s c seed count are none a =
    let there : number_at s ≡ Some seed = ap number_at (asked-parts wanted words w s c seed count are a).1 ∙ number_at-decimal seed a.1 in absurd (cc)

count-there : (c : List ℕ) (count : ℕ) → c ≡ decimal count → 1 ≤ count → count ≤ 100000 → number_within 1 100000 c ≡ Some count
count-there c count is low high = ap (number_within 1 100000) is ∙ number-within 1 100000 count low high (omega (arith, high))

pub no_count : (wanted : List ℕ) (words : List (String Global)) (w s c : List ℕ) (seed count : ℕ) → map string_bytes words ≡ w ∷ s ∷ c ∷ [] → number_within 1 100000 c ≡ None → Asks wanted words seed count → ⊥
no_count wanted words w s c seed count are none a =
    let there : number_within 1 100000 c ≡ Some count = count-there c count (asked-parts wanted words w s c seed count are a).2 a.2 a.3 in absurd (cc)

pub asks : (wanted : List ℕ) (words : List (String Global)) (w s c text : List ℕ) (seed count : ℕ) → map string_bytes words ≡ w ∷ s ∷ c ∷ [] → text ≡ w → not (bytes_eq text wanted) ≡ false
    → number_at s ≡ Some seed → number_within 1 100000 c ≡ Some count → Asks wanted words seed count
asks wanted words w s c text seed count are is same seed-is count-is =
    let told = number_at-tells s seed seed-is in
    let counted = number-tells 1 100000 c count count-is in
    let equal : bytes_eq text wanted ≡ true = twice (bytes_eq text wanted) same in
    let word : w ≡ wanted = sym is ∙ (bytes_eq-Decides text wanted).0 equal in
    (rw (are, word, ← told.1, counted.0) refl, told.0, counted.1, counted.2)
  where
    twice : (b : Bool) → not b ≡ false → b ≡ true
    twice true h = refl
    twice false h = absurd (cc)

pub same : {A : Type 0} (a b : A) → Some a ≡ Some b → a ≡ b
same a b e = cc

pub asks_once : (wanted : List ℕ) (words : List (String Global)) (w s c : List ℕ) (seed count m n : ℕ) → map string_bytes words ≡ w ∷ s ∷ c ∷ [] → number_at s ≡ Some m → number_within 1 100000 c ≡ Some n
    → Asks wanted words seed count → ◌≡◌ {A = Option Asked} (Some (record { seed = m; count = n })) (Some (record { seed = seed; count = count }))
asks_once wanted words w s c seed count m n are m-is n-is a =
    let is = asked-parts wanted words w s c seed count are a in
    let seeds : m ≡ seed = same m seed (sym m-is ∙ (ap number_at is.1 ∙ number_at-decimal seed a.1)) in
    let counts : n ≡ count = same n count (sym n-is ∙ count-there c count is.2 a.2 a.3) in
    rw (seeds, counts) refl
