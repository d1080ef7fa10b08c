-- Bits one after another, and numbers of two octets.
use Rattle.std.proofs.Common.{◌≡◌, ℕ, ◌+◌, ◌*◌, ◌<◌, ◌≤◌, Bool, false, List, [], ◌∷◌, ◌++◌, length, take, get_or, Some, None, sym, ap, ◌∙◌, inl, inr, arith}
use Rattle.std.specs.Prelude.{slice_get}
use Rattle.std.proofs.lemmas.Bool.{cases_lt}
use Rattle.std.proofs.lemmas.List.{take_more, take_all, length-append}
use Rattle.std.proofs.lemmas.Option.{slice_get_within, get_or_from_slice_get, slice_get-get_or}
use Rattle.ber_grammar.specs.Octets.{big_endian}

pub one_bit_more : (all grown view : List Bool) (b : Bool) → all ≡ take (length all) view → slice_get view (length all) ≡ Some b → grown ≡ all ++ b ∷ []
    → (length grown ≤ length view) × (grown ≡ take (length grown) view)
one_bit_more all grown view b h got push =
    let within : length all < length view = slice_get_within view (length all) b got in
    let count : length grown ≡ length all + 1 = ap (λ (x : List Bool). length x) push ∙ length-append all (b ∷ []) in (
      omega (arith, within, count),
      push
          ∙ ap (λ (x : List Bool). x ++ b ∷ []) h
          ∙ sym (take_more view (length all) b within ∙ ap (λ (x : Bool). take (length all) view ++ x ∷ []) (get_or_from_slice_get view (length all) b b got))
          ∙ ap (λ (n : ℕ). take n view) (sym count),
    )

pub no_bit_more : (all view : List Bool) → length all ≤ length view → all ≡ take (length all) view → slice_get view (length all) ≡ None → all ≡ view
no_bit_more all view le h none =
    elim (cases_lt (length all) (length view)) [
      | inl lt ↦ (let is = slice_get-get_or view (length all) false lt in absurd cc)
      | inr ge ↦ h ∙ take_all (length all) view ge
    ]

pub pair_is : (octets : List ℕ) → length octets ≡ 2 → get_or octets 0 0 * 256 + get_or octets 1 0 ≡ big_endian octets
pair_is [] len = absurd (omega (arith, len))
pair_is (a ∷ []) len = absurd (omega (arith, len))
pair_is (a ∷ b ∷ []) len = omega arith
pair_is (a ∷ b ∷ c ∷ rest) len = absurd (omega (arith, len))
