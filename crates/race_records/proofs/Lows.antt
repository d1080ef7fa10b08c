-- The lesser of numbers, in any order.
use Rattle.std.proofs.Common.{◌≡◌, ◌≤◌, ℕ, refl, ap, arith}
use Rattle.std.specs.Prelude.{min, Option, None, Some}
use Rattle.std.proofs.Math.Nat.{min_comm, min-le_left, min-le_right, le-min}
use Rattle.race_records.specs.Verdicts.{lesser}

anti : (a b : ℕ) → a ≤ b → b ≤ a → a ≡ b
anti a b h i = omega (arith, h, i)

min-swap-le : (a b c : ℕ) → min a (min b c) ≤ min b (min a c)
min-swap-le a b c =
    let first : min a (min b c) ≤ a = min-le_left a (min b c) in
    let rest : min a (min b c) ≤ min b c = min-le_right a (min b c) in
    let second : min b c ≤ b = min-le_left b c in
    let third : min b c ≤ c = min-le_right b c in
    le-min (omega (arith, rest, second)) (le-min first (omega (arith, rest, third)))

min-swap : (a b c : ℕ) → min a (min b c) ≡ min b (min a c)
min-swap a b c = anti (min a (min b c)) (min b (min a c)) (min-swap-le a b c) (min-swap-le b a c)

pub lesser-swap : (a b c : Option ℕ) → lesser a (lesser b c) ≡ lesser b (lesser a c)
lesser-swap (Some a) (Some b) (Some c) = ap Some (min-swap a b c)
lesser-swap (Some a) (Some b) None = ap Some (min_comm a b)
lesser-swap (Some a) None c = refl
lesser-swap None (Some b) c = refl
lesser-swap None None c = refl
