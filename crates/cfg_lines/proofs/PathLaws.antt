-- Which paths are taken.
use Rattle.std.proofs.Common.{◌≡◌, ℕ, zero, suc, ◌<◌, Bool, true, false, ◌||◌, List, [], ◌∷◌, take, get_or, None, Some, refl, sym, ap, ◌∙◌, arith, inl, inr, if◌then◌else◌}
use Rattle.std.specs.List.{list_any}
use Rattle.std.specs.Str.{bytes_eq}
use Rattle.std.proofs.lemmas.Bool.{cond_both, cases_eq, cond-true, eq-eqb, or_right}
use Rattle.cfg_lines.specs.Keys.{is_among}
use Rattle.cfg_lines.specs.Paths.{above_within, above, is_structure, is_taken}
use Rattle.list_laws.proofs.Distinct.{octets_turned}
use Rattle.list_laws.proofs.Truths.{or-pairs as shuffled}

-- a structure above the path passes the test
pub above-found : (p : List ℕ → Bool) (path : List ℕ) (n i : ℕ) → i < n → get_or path i 0 ≡ 36 → p (take i path) ≡ true → list_any p (above_within n path) ≡ true
above-found p path zero i lt is passes = absurd (omega (arith, lt))
above-found p path (suc n) i lt is passes = elim (cases_eq i n) [
  | inl e ↦ ap (list_any p) (cond-true _ (take n path ∷ above_within n path) (above_within n path) (eq-eqb _ _ (sym (ap (λ k. get_or path k 0) e) ∙ is)))
      ∙ ap (λ b. b || list_any p (above_within n path)) (sym (ap (λ k. p (take k path)) e) ∙ passes)
  | inr ne ↦
      let rest = above-found p path n i (omega (arith, lt, ne)) is passes in
      cond_both _ (take n path ∷ above_within n path) (above_within n path) (λ fronts. list_any p fronts ≡ true) (λ e. or_right (p (take n path)) _ rest) (λ e. rest)
]

pub any-or : {X : Type 0} (p q : X → Bool) (xs : List X) → list_any (λ x. p x || q x) xs ≡ (list_any p xs || list_any q xs)
any-or p q [] = refl
any-or p q (x ∷ xs) = ap (λ b. (p x || q x) || b) (any-or p q xs) ∙ shuffled (p x) (q x) (list_any p xs) (list_any q xs)

pub any-same : {X : Type 0} (p q : X → Bool) (xs : List X) → ((x : X) → p x ≡ q x) → list_any p xs ≡ list_any q xs
any-same p q [] each = refl
any-same p q (x ∷ xs) each = ap (λ b. p x || b) (any-same p q xs each) ∙ ap (λ b. b || list_any q xs) (each x)

any-none : {X : Type 0} (xs : List X) → list_any (λ x. false) xs ≡ false
any-none [] = refl
any-none (x ∷ xs) = any-none xs

-- one of those is among these, where one of these is among those
pub any-turned : (xs ys : List (List ℕ)) → list_any (λ x. is_among ys x) xs ≡ list_any (λ y. is_among xs y) ys
any-turned [] ys = sym (any-none ys)
any-turned (x ∷ xs) ys = ap (λ b. is_among ys x || b) (any-turned xs ys)
    ∙ (ap (λ b. b || list_any (λ y. is_among xs y) ys) (any-same (λ y. bytes_eq x y) (λ y. bytes_eq y x) ys (λ y. octets_turned x y))
    ∙ sym (any-or (λ y. bytes_eq y x) (λ y. is_among xs y) ys))

pub taken-split : (others : List (List ℕ)) (path : List ℕ) → is_taken others path ≡ ((is_among others path || is_structure others path) || list_any (λ front. is_among others front) (above path))
taken-split others path = any-or (λ other. bytes_eq path other || is_among (above other) path) (λ other. is_among (above path) other) others
    ∙ (ap (λ b. b || list_any (λ other. is_among (above path) other) others) (any-or (λ other. bytes_eq path other) (λ other. is_among (above other) path) others)
    ∙ ap (λ b. (is_among others path || is_structure others path) || b) (any-turned others (above path)))

pub second : (a b c : Bool) → a ≡ false → c ≡ false → ((a || b) || c) ≡ b
second true b c p q = absurd cc
second false true c p q = refl
second false false c p q = q

pub none-beside : (a b : Bool) → b ≡ false → a ≡ (a || b)
none-beside true b none = refl
none-beside false b none = sym none

-- a number that a path has where nothing is in its way
pub kept-back : (b : Bool) (n : ℕ) → (if b then None else Some n) ≡ None → b ≡ true
kept-back true n e = refl
kept-back false n e = absurd cc

pub let-through : (b : Bool) (n m : ℕ) → (if b then None else Some n) ≡ Some m → b ≡ false
let-through true n m e = absurd cc
let-through false n m e = refl
