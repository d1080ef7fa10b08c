-- A decimal text is read as the number that it spells.
use Rattle.std.proofs.Common.{◌≡◌, ◌≢◌, ◌<◌, ◌^◌, ℕ, List, ap, ◌∙◌, subst, arith, refl}
use Rattle.std.specs.Prelude.{Some, None}
use Rattle.std.specs.Fmt.{decimal}
use Rattle.std.specs.Str.Parse.{digits_value}
use Rattle.std.proofs.lemmas.Bool.{and_parts, and_from, ltb-true, lt-ltb, cond-true, cond_both}
use Rattle.std.proofs.lemmas.Fmt.{decimal_is_IsNumeral}
use Rattle.std.proofs.lemmas.Slice.Eq.{bytes_eq-Decides}
use Rattle.text_words.specs.Numbers.{number_at}
use Rattle.list_laws.proofs.Options.{some_is, chosen}

pub number_at-decimal : (n : ℕ) → n < 2 ^ 64 → number_at (decimal n) ≡ Some n
unfolding number_at
number_at-decimal n lt =
    let v : digits_value 10 (decimal n) ≡ n = (decimal_is_IsNumeral n lt).1 in
    let small : digits_value 10 (decimal n) < 2 ^ 64 = omega (arith, v, lt) in
    cond-true _ _ _ (and_from _ _ (lt-ltb _ _ small) ((bytes_eq-Decides (decimal (digits_value 10 (decimal n))) (decimal n)).1 (ap decimal v))) ∙ ap Some v

pub number_at-tells : (octets : List ℕ) (n : ℕ) → number_at octets ≡ Some n → (n < 2 ^ 64) × (decimal n ≡ octets)
unfolding number_at
number_at-tells octets n is =
    let parts = chosen _ (Some (digits_value 10 octets)) n is in
    let v = some_is (digits_value 10 octets) n parts.1 in
    let both = and_parts _ _ parts.0 in
    (subst (λ m. m < 2 ^ 64) v (ltb-true _ _ both.0), subst (λ m. decimal m ≡ octets) v ((bytes_eq-Decides (decimal (digits_value 10 octets)) octets).0 both.1))

pub number_at-none : (octets : List ℕ) → ((n : ℕ) → n < 2 ^ 64 → decimal n ≢ octets) → number_at octets ≡ None
unfolding number_at
number_at-none octets never =
    cond_both _ (Some (digits_value 10 octets)) None (λ o. o ≡ None)
    (λ e. let both = and_parts _ _ e in absurd (never (digits_value 10 octets) (ltb-true _ _ both.0) ((bytes_eq-Decides (decimal (digits_value 10 octets)) octets).0 both.1)))
    (λ e. refl)
