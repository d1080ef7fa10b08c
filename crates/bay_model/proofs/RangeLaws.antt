-- A part of a part of a row.
use Rattle.std.proofs.Common.{◌≡◌, ℕ, ◌+◌, ◌-◌, ◌≤◌, min, List, [], length, take, drop, take_all, refl, sym, ap, ◌∙◌, arith, length-take, drop-drop, take-take}
use Rattle.std.proofs.lemmas.List.{drop-take, drop_all}
use mathlib.Core.Logic.{dite}
use native.Mathlib.Decide.{dec_le}

-- at most n of the first m, from place a on
inside : {X : Type 0} (xs : List X) (a m n k j : ℕ) → k ≡ a → j ≡ min n (m - a) → a ≤ m → take j (drop k xs) ≡ take n (drop a (take m xs))
inside xs a m n k j s e l = let all : a + (m - a) ≡ m = omega (arith, l) in
    ap (λ b. take j (drop b xs)) s ∙ (dite (dec_le n (m - a))
    (λ less. let is : j ≡ n = omega (arith, e, less) in ap (λ b. take b (drop a xs)) is ∙ sym (take-take n (m - a) (drop a xs) less))
    (λ more. let is : j ≡ m - a = omega (arith, e, more) in ap (λ b. take b (drop a xs)) is ∙ sym (take_all n (take (m - a) (drop a xs)) (omega (arith, more, length-take (m - a) (drop a xs)))))
    ∙ sym (ap (λ b. take n (drop a (take b xs))) (sym all) ∙ ap (take n) (drop-take a (m - a) xs)))

within : {X : Type 0} (xs : List X) (a m n k j : ℕ) → k ≡ min a m → j ≡ min n (m - k) → take j (drop k xs) ≡ take n (drop a (take m xs))
within xs a m n k j s e = dite (dec_le a m)
    (λ l. inside xs a m n k j (omega (arith, s, l)) (omega (arith, s, e, l)) l)
    (λ l. let none : j ≡ 0 = omega (arith, s, e, l) in ap (λ b. take b (drop k xs)) none ∙ sym (ap (take n) (drop_all a (take m xs) (omega (arith, l, length-take m xs))) ∙ take_all n [] (omega arith)))

-- what a range of a range holds
pub part-is : {X : Type 0} (row : List X) (first end from count start stop : ℕ) → start ≡ first + min from (end - first) → stop ≡ start + min count (end - start)
    → take (stop - start) (drop start row) ≡ take count (drop from (take (end - first) (drop first row)))
part-is row first end from count start stop s e =
    let k : ℕ = min from (end - first) in
    ap (λ b. take (stop - start) (drop b row)) s ∙ (ap (take (stop - start)) (sym (drop-drop k first row)) ∙ within (drop first row) from (end - first) count k (stop - start) refl (omega (arith, s, e)))
