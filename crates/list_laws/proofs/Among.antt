-- Membership in a list, and which element stands at a place.
use Rattle.std.proofs.Common.{◌≡◌, ℕ, zero, suc, ◌<◌, Bool, true, false, cond, ◌||◌, ◌⊎◌, inl, inr, List, [], ◌∷◌, ◌++◌, map, filter, flat_map, length, Some, slice_get, slice_index_or, refl, sym, ap, subst, ◌∙◌, true≢false, arith}
use Rattle.std.specs.List.{list_any, All}
use Rattle.std.proofs.lemmas.List.Elements.{All-cons, All-nil, All-head, All-tail}

abbrev pub Among : {X : Type 0} → X → List X → Type 0
Among x [] = ⊥
Among x (y ∷ ys) = (x ≡ y) ⊎ Among x ys

abbrev pub At : {X : Type 0} → ℕ → X → List X → Type 0
At n x [] = ⊥
At zero x (y ∷ ys) = x ≡ y
At (suc n) x (y ∷ ys) = At n x ys

-- what holds of each element, by recursion
abbrev pub Each : {X : Type 0} → (X → Type 0) → List X → Type 0
Each P [] = Unit {0}
Each P (x ∷ xs) = P x × Each P xs

pub each-of : {X : Type 0} (P : X → Type 0) (xs : List X) → ((x : X) → Among x xs → P x) → Each P xs
each-of P [] h = tt
each-of P (x ∷ xs) h = (h x (inl refl), each-of P xs (λ y i. h y (inr i)))

pub of-each : {X : Type 0} (P : X → Type 0) (xs : List X) (x : X) → Each P xs → Among x xs → P x
of-each P [] x h i = absurd i
of-each P (y ∷ ys) x h (inl e) = subst P (sym e) h.0
of-each P (y ∷ ys) x h (inr i) = of-each P ys x h.1 i

pub all-of : {X : Type 0} (P : X → Type 0) (xs : List X) → ((x : X) → Among x xs → P x) → All P xs
all-of P [] h = All-nil P
all-of P (x ∷ xs) h = All-cons P x xs (h x (inl refl)) (all-of P xs (λ y i. h y (inr i)))

pub left : {X : Type 0} (x : X) (xs ys : List X) → Among x xs → Among x (xs ++ ys)
left x [] ys i = absurd i
left x (y ∷ xs) ys (inl e) = inl e
left x (y ∷ xs) ys (inr i) = inr (left x xs ys i)

pub right : {X : Type 0} (x : X) (xs ys : List X) → Among x ys → Among x (xs ++ ys)
right x [] ys i = i
right x (y ∷ xs) ys i = inr (right x xs ys i)

pub either : {X : Type 0} (x : X) (xs ys : List X) → Among x (xs ++ ys) → Among x xs ⊎ Among x ys
either x [] ys i = inr i
either x (y ∷ xs) ys (inl e) = inl (inl e)
either x (y ∷ xs) ys (inr i) = sides (either x xs ys i)
  where
    sides : Among x xs ⊎ Among x ys → ((x ≡ y) ⊎ Among x xs) ⊎ Among x ys
    sides (inl j) = inl (inr j)
    sides (inr j) = inr j

pub mapped : {X Y : Type 0} (f : X → Y) (x : X) (xs : List X) → Among x xs → Among (f x) (map f xs)
mapped f x [] i = absurd i
mapped f x (y ∷ ys) (inl e) = inl (ap f e)
mapped f x (y ∷ ys) (inr i) = inr (mapped f x ys i)

-- what an element of a list of images comes from
abbrev pub Source : {X Y : Type 0} → (X → Y) → Y → List X → Type 0
Source {X} f y xs = (x : X) × Among x xs × (y ≡ f x)

pub source : {X Y : Type 0} (f : X → Y) (y : Y) (xs : List X) → Among y (map f xs) → Source f y xs
source f y [] i = absurd i
source f y (x ∷ xs) (inl e) = (x, inl refl, e)
source f y (x ∷ xs) (inr i) = let s = source f y xs i in (s.0, inr s.1, s.2)

pub kept : {X : Type 0} (p : X → Bool) (x : X) (xs : List X) → Among x xs → p x ≡ true → Among x (filter p xs)
kept p x [] i is = absurd i
kept p x (y ∷ ys) (inl e) is = subst (λ b. Among x (cond b (y ∷ filter p ys) (filter p ys))) (sym (sym (ap p e) ∙ is)) (inl e)
kept p x (y ∷ ys) (inr i) is = by (p y) (kept p x ys i is)
  where
    by : (b : Bool) → Among x (filter p ys) → Among x (cond b (y ∷ filter p ys) (filter p ys))
    by true j = inr j
    by false j = j

pub passed : {X : Type 0} (p : X → Bool) (x : X) (xs : List X) → Among x (filter p xs) → Among x xs × (p x ≡ true)
passed p x [] i = absurd i
passed p x (y ∷ ys) i = by (p y) refl i (passed p x ys)
  where
    by : (b : Bool) → p y ≡ b → Among x (cond b (y ∷ filter p ys) (filter p ys)) → (Among x (filter p ys) → Among x ys × (p x ≡ true)) → Among x (y ∷ ys) × (p x ≡ true)
    by true e (inl s) go = (inl s, ap p s ∙ e)
    by true e (inr j) go = (inr (go j).0, (go j).1)
    by false e j go = (inr (go j).0, (go j).1)

pub spread : {X Y : Type 0} (f : X → List Y) (x : X) (y : Y) (xs : List X) → Among x xs → Among y (f x) → Among y (flat_map f xs)
spread f x y [] i j = absurd i
spread f x y (z ∷ zs) (inl e) j = left y (f z) (flat_map f zs) (subst (λ w. Among y (f w)) e j)
spread f x y (z ∷ zs) (inr i) j = right y (f z) (flat_map f zs) (spread f x y zs i j)

pub gathered : {X Y : Type 0} (f : X → List Y) (y : Y) (xs : List X) → Among y (flat_map f xs) → (x : X) × Among x xs × Among y (f x)
gathered f y [] i = absurd i
gathered {X} f y (x ∷ xs) i = by (either y (f x) (flat_map f xs) i) (gathered f y xs)
  where
    by : Among y (f x) ⊎ Among y (flat_map f xs) → (Among y (flat_map f xs) → (z : X) × Among z xs × Among y (f z)) → (z : X) × Among z (x ∷ xs) × Among y (f z)
    by (inl j) go = (x, inl refl, j)
    by (inr j) go = let g = go j in (g.0, inr g.1, g.2)

-- a test that one of them passes
pub some-passes : {X : Type 0} (p : X → Bool) (xs : List X) → list_any p xs ≡ true → (x : X) × Among x xs × (p x ≡ true)
some-passes p [] h = absurd (true≢false (sym h))
some-passes p (x ∷ xs) h = by (p x) refl h (some-passes p xs)
  where
    by : (b : Bool) → p x ≡ b → (b || list_any p xs) ≡ true → (list_any p xs ≡ true → (y : _) × Among y xs × (p y ≡ true)) → (y : _) × Among y (x ∷ xs) × (p y ≡ true)
    by true e h go = (x, inl refl, e)
    by false e h go = let g = go h in (g.0, inr g.1, g.2)

pub passes : {X : Type 0} (p : X → Bool) (x : X) (xs : List X) → Among x xs → p x ≡ true → list_any p xs ≡ true
passes p x [] i is = absurd i
passes p x (y ∷ ys) (inl e) is = ap (λ b. b || list_any p ys) (sym (ap p e) ∙ is)
passes p x (y ∷ ys) (inr i) is = by (p y) (passes p x ys i is)
  where
    by : (b : Bool) → list_any p ys ≡ true → (b || list_any p ys) ≡ true
    by true h = refl
    by false h = h

-- places
pub at-among : {X : Type 0} (n : ℕ) (x : X) (xs : List X) → At n x xs → Among x xs
at-among n x [] a = absurd a
at-among zero x (y ∷ ys) a = inl a
at-among (suc n) x (y ∷ ys) a = inr (at-among n x ys a)

pub among-at : {X : Type 0} (x : X) (xs : List X) → Among x xs → (n : ℕ) × At n x xs
among-at x [] i = absurd i
among-at x (y ∷ ys) (inl e) = (zero, e)
among-at x (y ∷ ys) (inr i) = let a = among-at x ys i in (suc a.0, a.1)

pub at-within : {X : Type 0} (n : ℕ) (x : X) (xs : List X) → At n x xs → n < length xs
at-within n x [] a = absurd a
at-within zero x (y ∷ ys) a = omega arith
at-within (suc n) x (y ∷ ys) a = omega (arith, at-within n x ys a)

pub at-index : {X : Type 0} (n : ℕ) (x d : X) (xs : List X) → At n x xs → slice_index_or xs n d ≡ x
at-index n x d [] a = absurd a
at-index zero x d (y ∷ ys) a = sym a
at-index (suc n) x d (y ∷ ys) a = at-index n x d ys a

pub at-get : {X : Type 0} (n : ℕ) (x : X) (xs : List X) → At n x xs → slice_get xs n ≡ Some x
at-get n x [] a = absurd a
at-get zero x (y ∷ ys) a = ap Some (sym a)
at-get (suc n) x (y ∷ ys) a = at-get n x ys a

pub at-map : {X Y : Type 0} (f : X → Y) (n : ℕ) (x : X) (xs : List X) → At n x xs → At n (f x) (map f xs)
at-map f n x [] a = absurd a
at-map f zero x (y ∷ ys) a = ap f a
at-map f (suc n) x (y ∷ ys) a = at-map f n x ys a

pub at-left : {X : Type 0} (n : ℕ) (x : X) (xs ys : List X) → At n x xs → At n x (xs ++ ys)
at-left n x [] ys a = absurd a
at-left zero x (y ∷ xs) ys a = a
at-left (suc n) x (y ∷ xs) ys a = at-left n x xs ys a

-- the last place, or one before
pub at-last : {X : Type 0} (n : ℕ) (x : X) (xs : List X) (y : X) → At n x (xs ++ y ∷ []) → At n x xs ⊎ ((n ≡ length xs) × (x ≡ y))
at-last zero x [] y a = inr (refl, a)
at-last (suc n) x [] y a = absurd a
at-last zero x (z ∷ xs) y a = inl a
at-last (suc n) x (z ∷ xs) y a = by (at-last n x xs y a)
  where
    by : At n x xs ⊎ ((n ≡ length xs) × (x ≡ y)) → At n x xs ⊎ ((suc n ≡ suc (length xs)) × (x ≡ y))
    by (inl b) = inl b
    by (inr b) = inr (ap suc b.0, b.1)

pub at-same : {X : Type 0} (n : ℕ) (x y : X) (xs : List X) → At n x xs → At n y xs → x ≡ y
at-same n x y [] a b = absurd a
at-same zero x y (z ∷ zs) a b = a ∙ sym b
at-same (suc n) x y (z ∷ zs) a b = at-same n x y zs a b

-- the last, or one before
pub ending : {X : Type 0} (x : X) (xs : List X) (y : X) → Among x (xs ++ y ∷ []) → Among x xs ⊎ (x ≡ y)
ending x xs y i = by (either x xs (y ∷ []) i)
  where
    by : Among x xs ⊎ ((x ≡ y) ⊎ ⊥) → Among x xs ⊎ (x ≡ y)
    by (inl j) = inl j
    by (inr (inl e)) = inr e
    by (inr (inr j)) = absurd j

pub each-both : {X : Type 0} (P : X → Type 0) (xs ys : List X) → Each P xs → Each P ys → Each P (xs ++ ys)
each-both P [] ys h k = k
each-both P (x ∷ xs) ys h k = (h.0, each-both P xs ys h.1 k)

-- no element at all
pub each-filter : {X : Type 0} (P : X → Type 0) (p : X → Bool) (xs : List X) → Each P xs → Each P (filter p xs)
each-filter P p [] h = tt
each-filter P p (x ∷ xs) h = by (p x) (each-filter P p xs h.1)
  where
    by : (t : Bool) → Each P (filter p xs) → Each P (cond t (x ∷ filter p xs) (filter p xs))
    by true go = (h.0, go)
    by false go = go

pub nil-of : {X : Type 0} (xs : List X) → ((x : X) → Among x xs → ⊥) → xs ≡ []
nil-of [] h = refl
nil-of (x ∷ xs) h = absurd (h x (inl refl))

pub of-all : {X : Type 0} (P : X → Type 0) (xs : List X) (x : X) → All P xs → Among x xs → P x
of-all P [] x all i = absurd i
of-all P (y ∷ ys) x all (inl e) = subst P (sym e) (All-head P y ys all)
of-all P (y ∷ ys) x all (inr i) = of-all P ys x (All-tail P y ys all) i

-- the parts of lists that are the same
pub heads : {X : Type 0} (a b : X) (p q : List X) → a ∷ p ≡ b ∷ q → a ≡ b
heads a b p q e = cc

pub tails : {X : Type 0} (a b : X) (p q : List X) → a ∷ p ≡ b ∷ q → p ≡ q
tails a b p q e = cc
