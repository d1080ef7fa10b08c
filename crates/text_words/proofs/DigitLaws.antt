-- Digits are read one after another as the number that they spell.
use Rattle.std.proofs.Common.{◌≡◌, ℕ, suc, ◌+◌, ◌*◌, ◌^◌, ◌<◌, ◌≤◌, ◌⊎◌, inl, inr, ⊎_elim, List, [], ◌∷◌, length, take, get_or, refl, sym, ap, subst, ◌∙◌, arith}
use Rattle.std.specs.Prelude.{Option, Some, None, MatchOption}
use Rattle.std.specs.Fmt.{decimal}
use Rattle.std.specs.Int.{IsInRange}
use Rattle.std.specs.Str.Parse.{AllDigits, digits_value}
use Rattle.std.proofs.lemmas.Bool.{cases_eq}
use Rattle.std.proofs.lemmas.Fmt.{decimal_digit, decimal_is_IsNumeral, decimal_nonempty, first_decimal, decimal-digits_value}
use Rattle.std.proofs.lemmas.Int.Digits.{digits_value_more}
use Rattle.std.proofs.lemmas.List.{take_all}
use Rattle.std.proofs.lemmas.Str.{digit_value_digit}
use Rattle.std.proofs.lemmas.Str.Parse.{digit_at, digits_value-take-le, IsNumeralModel}
use Rattle.text_words.specs.Numbers.{AreDigitsOf64, number_at}
use Rattle.text_words.proofs.NumberLaws.{number_at-decimal, number_at-none}

-- what the octets before a place have given
pub record Reads (word : List ℕ) (n i : ℕ) : Type 0 where
  pub value : n ≡ digits_value 10 (take i word)
  pub small : n < 2 ^ 64
  pub digits : (k : ℕ) → k < i → IsInRange 48 57 (get_or word k 0)

pub reads-none : (word : List ℕ) → Reads word 0 0
reads-none word = record { value = refl; small = omega arith; digits = λ k lt. absurd (omega (arith, lt)) }

pub reads-next : (word : List ℕ) (n i octet m : ℕ) → i < length word → octet ≡ get_or word i 0 → 48 ≤ octet → octet ≤ 57 → m < 2 ^ 64 → m + 48 ≡ n * 10 + octet → Reads word n i → Reads word m (i + 1)
reads-next word n i octet m lt is low high small next r =
    let own : IsInRange 48 57 (get_or word i 0) = subst (IsInRange 48 57) is (low, high) in
    let digit = digit_value_digit (get_or word i 0) own in
    record {
      value = omega (arith, digits_value_more 10 word i lt, r.value, digit, is, next);
      small = small;
      digits = λ k below. ⊎_elim (λ same. subst (λ j. IsInRange 48 57 (get_or word j 0)) (sym same) own) (λ other. r.digits k (omega (arith, below, other))) (cases_eq k i);
    }

-- no digit, or more than there may be
pub reads-other : (word : List ℕ) (n i octet : ℕ) → i < length word → octet ≡ get_or word i 0 → (octet < 48) ⊎ ((57 < octet) ⊎ (2 ^ 64 + 48 ≤ n * 10 + octet)) → Reads word n i → AreDigitsOf64 word → ⊥
reads-other word n i octet lt is (inl low) r of = let d = digit_at word i of.0 lt in omega (arith, is, low, d.0)
reads-other word n i octet lt is (inr (inl high)) r of = let d = digit_at word i of.0 lt in omega (arith, is, high, d.1)
reads-other word n i octet lt is (inr (inr large)) r of =
    let digit = digit_value_digit (get_or word i 0) (digit_at word i of.0 lt) in
    omega (arith, of.1, is, large, r.value, digit, digits_value_more 10 word i lt, digits_value-take-le 10 word (i + 1) (omega arith))

all-digits : (word : List ℕ) → ((k : ℕ) → k < length word → IsInRange 48 57 (get_or word k 0)) → AllDigits 10 word
all-digits [] each = tt
all-digits (c ∷ cs) each =
    let first = each 0 (omega arith) in
    (omega (arith, digit_value_digit c first, first.1), all-digits cs (λ k lt. each (suc k) (omega (arith, lt))))

pub reads-all : (word : List ℕ) (n i : ℕ) → i ≡ length word → Reads word n i → AreDigitsOf64 word × (n ≡ digits_value 10 word)
reads-all word n i all r =
    let value : n ≡ digits_value 10 word = r.value ∙ ap (digits_value 10) (take_all i word (omega (arith, all))) in
    ((all-digits word (λ k lt. r.digits k (omega (arith, lt, all))), subst (λ m. m < 2 ^ 64) value r.small), value)

pub number_at-empty : (word : List ℕ) → length word ≡ 0 → number_at word ≡ None
number_at-empty word empty = number_at-none word (λ n lt is. omega (arith, decimal_nonempty n lt, ap length is, empty))

pub number_at-leading_zero : (word : List ℕ) → get_or word 0 0 ≡ 48 → 1 < length word → number_at word ≡ None
number_at-leading_zero word zero more = number_at-none word (λ n lt is. ⊎_elim
    (λ none. let one : length word ≡ 1 = ap length (sym is ∙ (ap decimal none ∙ decimal_digit 0 (omega arith))) in omega (arith, one, more))
    (λ some. omega (arith, first_decimal n (omega (arith, some)) lt, ap (λ w. get_or w 0 0) is, zero))
    (cases_eq n 0))

number_at-other : (word : List ℕ) → (AreDigitsOf64 word → ⊥) → number_at word ≡ None
number_at-other word other = number_at-none word (λ n lt is.
    let numeral = decimal_is_IsNumeral n lt in
    other (subst AreDigitsOf64 is (numeral.0.1, omega (arith, numeral.1, lt))))

own : IsNumeralModel (AllDigits 10) (digits_value 10)
own = record { to = λ ds all. all; from = λ ds all. all; same = λ ds all. refl }

number_at-digits : (word : List ℕ) (n : ℕ) → 0 < length word → (get_or word 0 0 ≡ 48 → length word ≡ 1) → AreDigitsOf64 word → n ≡ digits_value 10 word → number_at word ≡ Some n
number_at-digits word n some first of is =
    let spelled : decimal n ≡ word = ap decimal is ∙ decimal-digits_value own word of.0 some first of.1 in
    ap number_at (sym spelled) ∙ number_at-decimal n (subst (λ m. m < 2 ^ 64) (sym is) of.1)

-- without a leading zero
pub number_at-told : (word : List ℕ) (r : Option ℕ) → 0 < length word → (get_or word 0 0 ≡ 48 → length word ≡ 1) → MatchOption r (AreDigitsOf64 word → ⊥) (λ n. AreDigitsOf64 word × (n ≡ digits_value 10 word)) → r ≡ number_at word
number_at-told word None some first told = sym (number_at-other word told)
number_at-told word (Some n) some first told = sym (number_at-digits word n some first told.0 told.1)
