-- The octets of a line, looked at in parts.
use Rattle.std.proofs.Common.{◌≡◌, ℕ, zero, suc, ◌+◌, ◌-◌, ◌%◌, ◌<◌, ◌≤◌, ◌↔◌, inl, inr, Bool, true, false, not, ◌||◌, ◌&&◌, ◌==◌, nat_lt, nat_le, List, [], ◌∷◌, length, take, drop, get_or, cond, drop-cons, refl, sym, ap, subst, ◌∙◌, arith}
use Rattle.std.specs.Bool.{beq}
use Rattle.std.specs.List.{list_all, list_any, count_by, slice_range}
use Rattle.std.proofs.Math.Seq.{take-length}
use Rattle.std.proofs.lemmas.Bool.{cases_lt, both_ways, and_cases, false_from_ne_true, leb-true, or_parts, or_from, and_parts, and_from, not-true, not-false, not_from_true, not_from_false, le-ltb}
use Rattle.std.proofs.lemmas.Bool.Decides.{nat_tests}
use Rattle.std.proofs.lemmas.List.Folds.{drop_split}
use Rattle.std.proofs.lemmas.List.Sums.{sum_by-append}
use Rattle.text_words.specs.Octets.{is_printable}
use Rattle.text_words.specs.Words.{words_of}
use Rattle.run_record.specs.Judging.{is_long}
use Rattle.run_record.specs.Octets.{is_fault, IsFaultless, is_clear, has_odd_spaces}
use Rattle.run_record.proofs.SeenLaws.{empties, empties-told}

-- what is told of the octets from a on, before b
abbrev pub Tells : List ℕ → Bool → ℕ → ℕ → Type 0
Tells line found a b = (found ≡ false) ↔ IsFaultless line a b

pub told-to : (line : List ℕ) (found : Bool) (a b c : ℕ) → b ≡ c → Tells line found a b → Tells line found a c
told-to line found a b c is tells = subst (Tells line found a) is tells

-- of two parts that meet or overlap
pub both-told : (line : List ℕ) (a b c d : ℕ) (x y : Bool) → a ≤ b → b ≤ c → c ≤ d → Tells line x a c → Tells line y b d → Tells line (x || y) a d
both-told line a b c d x y ab bc cd left right = (
  λ none. let parts = or_parts x y none in λ k from to. elim (cases_lt k c) [
    | inl early ↦ left.0 parts.0 k from early
    | inr late ↦ right.0 parts.1 k (omega arith) to
  ],
  λ clear. or_from x y (left.1 (λ k from to. clear k from (omega arith))) (right.1 (λ k from to. clear k (omega arith) to)),
)

-- of one octet
pub one-told : (line : List ℕ) (i : ℕ) (x : Bool) → x ≡ is_fault line i → Tells line x i (i + 1)
one-told line i x is = (
  λ none k from to. let here : k ≡ i = omega arith in ap (is_fault line) here ∙ (sym is ∙ none),
  λ clear. is ∙ clear i (omega arith) (omega arith),
)

-- after one octet more
shift : (p : ℕ) (line : List ℕ) (k : ℕ) → 1 ≤ k → is_fault (p ∷ line) (suc k) ≡ is_fault line k
shift p line zero some = absurd (omega arith)
shift p line (suc k) some =
    let fault = λ (i : ℕ) (before : ℕ). not (is_printable i) || ((before == 32) && (i == 32)) in
    let e : suc (suc k) - 1 ≡ suc k = omega arith in
    let f : suc k - 1 ≡ k = omega arith in
    ap (λ i. fault (get_or line (suc k) 0) (get_or (p ∷ line) i 0)) e ∙ sym (ap (λ i. fault (get_or line (suc k) 0) (get_or line i 0)) f)

-- what no fault says of the octets after the first
to-rest : (p : ℕ) (bs : List ℕ) → IsFaultless (p ∷ bs) 1 (length (p ∷ bs)) → (get_or (p ∷ bs) (length bs) 0 == 32) ≡ false → (list_all is_printable bs ≡ true) × (empties (p == 32) bs ≡ false)
to-rest p [] clear last = (refl, last)
to-rest p (b ∷ bs) clear last =
    let here = or_parts (not (is_printable b)) ((p == 32) && (b == 32)) (clear 1 (omega arith) (omega arith)) in
    let rest = to-rest b bs (λ k from to. sym (shift p (b ∷ bs) k from) ∙ clear (suc k) (omega arith) (omega arith)) last in
    (and_from _ _ (not-false _ here.0) rest.0, or_from _ _ here.1 rest.1)

from-rest : (p : ℕ) (bs : List ℕ) → list_all is_printable bs ≡ true → empties (p == 32) bs ≡ false → IsFaultless (p ∷ bs) 1 (length (p ∷ bs)) × ((get_or (p ∷ bs) (length bs) 0 == 32) ≡ false)
from-rest p [] all none = (λ k from to. absurd (omega arith), none)
from-rest p (b ∷ bs) all none =
    let parts = and_parts _ _ all in
    let apart = or_parts _ _ none in
    let rest = from-rest b bs parts.1 apart.1 in
    (at (or_from _ _ (not_from_true _ parts.0) apart.0) rest.0, rest.1)
  where
    at : is_fault (p ∷ b ∷ bs) 1 ≡ false → IsFaultless (b ∷ bs) 1 (length (b ∷ bs)) → IsFaultless (p ∷ b ∷ bs) 1 (length (p ∷ b ∷ bs))
    at here rest zero from to = absurd (omega arith)
    at here rest (suc zero) from to = here
    at here rest (suc (suc k)) from to = shift p (b ∷ bs) (suc k) (omega arith) ∙ rest (suc k) (omega arith) (omega arith)

-- what is looked at of a line before its parts
abbrev pub bounded : List ℕ → Bool
bounded line = ((nat_le (length line) 140100 && nat_lt 32 (get_or line 0 0)) && nat_le (get_or line 0 0) 126) && not (get_or line (length line - 1) 0 == 32)

last-at : (b : ℕ) (bs : List ℕ) → get_or (b ∷ bs) (length (b ∷ bs) - 1) 0 ≡ get_or (b ∷ bs) (length bs) 0
last-at b bs = let e : length (b ∷ bs) - 1 ≡ length bs = omega arith in ap (λ i. get_or (b ∷ bs) i 0) e

clear-told : (line : List ℕ) → 0 < length line → bounded line ≡ true → IsFaultless line 1 (length line) → is_clear line ≡ true
clear-told [] some is clear = absurd (omega arith)
clear-told (b ∷ bs) some is clear =
    let last = and_parts _ (not (get_or (b ∷ bs) (length (b ∷ bs) - 1) 0 == 32)) is in
    let high = and_parts _ (nat_le b 126) last.0 in
    let low = and_parts (nat_le (length (b ∷ bs)) 140100) (nat_lt 32 b) high.0 in
    let rest = to-rest b bs clear (ap (λ x. x == 32) (sym (last-at b bs)) ∙ not-true _ last.1) in
    let own : is_printable b ≡ true = grind (arith, nat_tests, low.1, high.1) in
    let word : (b == 32) ≡ false = grind (arith, nat_tests, low.1) in
    and_from _ _
    (not_from_false _ (or_from _ _ (le-ltb 140100 (length (b ∷ bs)) (leb-true _ _ low.0)) (not_from_true _ (and_from _ _ own rest.0))))
    (not_from_false _ (empties-told (b ∷ bs) ∙ or_from _ _ word rest.1))

told-clear : (line : List ℕ) → 0 < length line → is_clear line ≡ true → (bounded line ≡ true) × IsFaultless line 1 (length line)
told-clear [] some is = absurd (omega arith)
told-clear (b ∷ bs) some is =
    let parts = and_parts (not (is_long (b ∷ bs))) _ is in
    let long = or_parts (nat_lt 140100 (length (b ∷ bs))) _ (not-true _ parts.0) in
    let all = and_parts (is_printable b) (list_all is_printable bs) (not-false _ long.1) in
    let none = or_parts (b == 32) (empties (b == 32) bs) (sym (empties-told (b ∷ bs)) ∙ not-true _ parts.1) in
    let rest = from-rest b bs all.1 none.1 in
    let short : nat_le (length (b ∷ bs)) 140100 ≡ true = grind (arith, nat_tests, long.0) in
    let low : nat_lt 32 b ≡ true = grind (arith, nat_tests, all.0, none.0) in
    let high : nat_le b 126 ≡ true = grind (arith, nat_tests, all.0) in
    let last = not_from_false _ (ap (λ x. x == 32) (last-at b bs) ∙ rest.1) in
    (and_from _ _ (and_from _ _ (and_from _ _ short low) high) last, rest.0)

-- what a look at a line finds
pub bounded-is : (line : List ℕ) (found : Bool) → 0 < length line → bounded line ≡ true → Tells line found 1 (length line) → not found ≡ is_clear line
bounded-is line true some is tells = sym (false_from_ne_true _ (λ clear. both_ways true (tells.1 (told-clear line some clear).1) refl))
bounded-is line false some is tells = sym (clear-told line some is (tells.0 refl))

pub unbounded-is : (line : List ℕ) → 0 < length line → bounded line ≡ false → bounded line ≡ is_clear line
unbounded-is line some is = is ∙ sym (false_from_ne_true _ (λ clear. both_ways _ is (told-clear line some clear).0))

-- a line that is not clear, but not too long and of octets that lines have, has an empty word
pub unclear-empty : (line : List ℕ) → is_clear line ≡ false → is_long line ≡ false → list_any (λ w. length w == 0) (words_of line) ≡ true
unclear-empty line is short = elim (and_cases _ _ is) [
  | inl long ↦ absurd (both_ways _ short (not-false _ long))
  | inr empty ↦ not-false _ empty
]

-- the spaces of two parts that meet
parity : (m n : ℕ) (x y : Bool) → x ≡ (m % 2 == 1) → y ≡ (n % 2 == 1) → not (beq x y) ≡ ((m + n) % 2 == 1)
parity m n true true left right = grind (arith, nat_tests)
parity m n true false left right = grind (arith, nat_tests)
parity m n false true left right = grind (arith, nat_tests)
parity m n false false left right = grind (arith, nat_tests)

count_from : (text : List ℕ) (a b : ℕ) → a ≤ b → count_by (λ octet. octet == 32) (drop a text) ≡ count_by (λ octet. octet == 32) (slice_range text a b) + count_by (λ octet. octet == 32) (drop b text)
count_from text a b ab = ap (count_by (λ octet. octet == 32)) (drop_split text a b ab) ∙ sum_by-append (λ octet. cond (octet == 32) 1 0) (slice_range text a b) (drop b text)

pub both-odd : (text : List ℕ) (a b c : ℕ) (x y : Bool) → a ≤ b → b ≤ c → x ≡ has_odd_spaces (slice_range text a b) → y ≡ has_odd_spaces (slice_range text b c) → not (beq x y) ≡ has_odd_spaces (slice_range text a c)
both-odd text a b c x y ab bc left right =
    let sum : count_by (λ octet. octet == 32) (slice_range text a b) + count_by (λ octet. octet == 32) (slice_range text b c) ≡ count_by (λ octet. octet == 32) (slice_range text a c) = omega (arith, count_from text a b ab, count_from text b c bc, count_from text a c (omega arith)) in
    parity _ _ x y left right ∙ ap (λ n. n % 2 == 1) sum

one-is : (octet : ℕ) → (octet == 32) ≡ has_odd_spaces (octet ∷ [])
one-is octet = grind (arith, nat_tests)

one-odd : (text : List ℕ) (i : ℕ) → i < length text → (get_or text i 0 == 32) ≡ has_odd_spaces (slice_range text i (i + 1))
one-odd text i in_text =
    let one : i + 1 - i ≡ 1 = omega arith in
    let part : slice_range text i (i + 1) ≡ get_or text i 0 ∷ [] = ap (λ n. take n (drop i text)) one ∙ rw (drop-cons text i 0) refl in
    one-is (get_or text i 0) ∙ ap has_odd_spaces (sym part)

-- of a part and one octet more
pub more-odd : (text : List ℕ) (a b c : ℕ) (x : Bool) → a ≤ b → b + 1 ≡ c → b < length text → x ≡ has_odd_spaces (slice_range text a b) → not (beq x (get_or text b 0 == 32)) ≡ has_odd_spaces (slice_range text a c)
more-odd text a b c x ab next in_text is =
    both-odd text a b c x (get_or text b 0 == 32) ab (omega arith) is (one-odd text b in_text ∙ ap (λ n. has_odd_spaces (slice_range text b n)) next)

-- the whole text
pub all-odd : (text : List ℕ) → has_odd_spaces (slice_range text 0 (length text)) ≡ has_odd_spaces text
all-odd text = let all : length text - 0 ≡ length text = omega arith in ap (λ n. has_odd_spaces (take n text)) all ∙ ap has_odd_spaces (take-length text)
