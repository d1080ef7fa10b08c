-- Lists of which no two elements are alike, by a test.
use Rattle.std.proofs.Common.{◌≡◌, ℕ, zero, suc, ◌+◌, ◌<◌, Bool, true, false, cond, List, [], ◌∷◌, ◌++◌, map, length, get_or, position, Some, ap, ◌∙◌, arith}
use Rattle.std.specs.Option.{option_map}
use Rattle.list_laws.proofs.Among.{Each, each-both}
use Rattle.list_laws.proofs.Places.{place-cons}

pub each-map : {X Y : Type 0} (P : Y → Type 0) (f : X → Y) (xs : List X) → Each (λ x. P (f x)) xs → Each P (map f xs)
each-map P f [] a = tt
each-map P f (x ∷ xs) a = (a.0, each-map P f xs a.1)

pub each-more : {X : Type 0} (P Q : X → Type 0) (xs : List X) → ((x : X) → P x → Q x) → Each P xs → Each Q xs
each-more P Q [] f a = tt
each-more P Q (x ∷ xs) f a = (f x a.0, each-more P Q xs f a.1)

module _ {X : Type 0} (like : X → X → Bool) where
  -- none of these is like x
  abbrev pub Unlike : X → List X → Type 0
  Unlike x ys = Each (λ y. like y x ≡ false) ys

  abbrev pub Apart : List X → Type 0
  Apart [] = Unit {0}
  Apart (x ∷ xs) = Unlike x xs × Apart xs

  pub apart-both : (xs ys : List X) → Apart xs → Apart ys → Each (λ x. Unlike x ys) xs → Apart (xs ++ ys)
  apart-both [] ys a b c = b
  apart-both (x ∷ xs) ys a b c = (each-both (λ y. like y x ≡ false) xs ys a.0 c.0, apart-both xs ys a.1 b c.1)

  unlike-at : (x : X) (xs : List X) (n : ℕ) (d : X) → Unlike x xs → n < length xs → like (get_or xs n d) x ≡ false
  unlike-at x [] n d a h = absurd (omega (arith, h))
  unlike-at x (y ∷ ys) zero d a h = a.0
  unlike-at x (y ∷ ys) (suc n) d a h = unlike-at x ys n d a.1 (omega (arith, h))

  -- an element is the first one that is like it
  pub first_place : (xs : List X) (n : ℕ) (d : X) → ((x : X) → like x x ≡ true) → Apart xs → n < length xs → position (like (get_or xs n d)) xs ≡ Some n
  first_place [] n d self a h = absurd (omega (arith, h))
  first_place (x ∷ xs) zero d self a h = place-cons (like x) x xs ∙ ap (λ b. cond b (Some 0) (option_map (λ i. i + 1) (position (like x) xs))) (self x)
  first_place (x ∷ xs) (suc n) d self a h = let y : X = get_or xs n d in let below : n < length xs = omega (arith, h) in let next : n + 1 ≡ suc n = omega arith in
      place-cons (like y) x xs ∙ (ap (λ b. cond b (Some 0) (option_map (λ i. i + 1) (position (like y) xs))) (unlike-at x xs n d a.0 below)
      ∙ (ap (option_map (λ i. i + 1)) (first_place xs n d self a.1 below) ∙ ap Some next))
