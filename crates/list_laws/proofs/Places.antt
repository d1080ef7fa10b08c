-- The first place at which a test passes, and the element at a place.
use Rattle.std.proofs.Common.{◌≡◌, ◌≢◌, ◌≤◌, ℕ, zero, suc, ◌+◌, ◌<◌, ◌==◌, ◌⊎◌, inl, inr, Bool, true, false, cond, not, List, [], ◌∷◌, ◌++◌, map, drop, length, get_or, position, Option, None, Some, is_some, unwrap_or, slice_get, slice_set, slice_index_or, refl, sym, ap, subst, ◌∙◌, true≢false, nat_lt, arith, if◌then◌else◌}
use Rattle.std.specs.List.{All}
use Rattle.std.specs.Option.{option_map, option_or}
use Rattle.std.specs.Str.{bytes_eq}
use Rattle.std.specs.Cmp.Lexicographic.{bytes_decides}
use Rattle.std.proofs.lemmas.Bool.Decides.{nat_tests, eqb_tells}
use Rattle.std.proofs.lemmas.List.{same_lists, length-map, get_or-map}
use Rattle.std.proofs.lemmas.List.Elements.{All-head, All-tail}
use Rattle.std.proofs.lemmas.Option.{slice_get-map}
use Rattle.list_laws.proofs.Among.{heads, tails}
use Rattle.list_laws.proofs.Truths.{not-false}
use Rattle.list_laws.proofs.Options.{map_some}

-- ---- the first place, one further where the head does not pass

place : (b : Bool) (m n : ℕ) → cond (nat_lt (cond (not b) (1 + m) 0) (suc n)) (Some (cond (not b) (1 + m) 0)) None ≡ cond b (Some 0) (option_map (λ i. i + 1) (cond (nat_lt m n) (Some m) None))
place true m n = grind (arith, nat_tests)
place false m n = by (nat_lt m n) refl
  where
    by : (b : Bool) → nat_lt m n ≡ b → cond (nat_lt (1 + m) (suc n)) (Some (1 + m)) None ≡ option_map (λ i. i + 1) (cond b (Some m) None)
    by true h = grind (arith, nat_tests)
    by false h = grind (arith, nat_tests)

pub place-cons : {X : Type 0} (p : X → Bool) (x : X) (xs : List X) → position p (x ∷ xs) ≡ cond (p x) (Some 0) (option_map (λ n. n + 1) (position p xs))
place-cons p x xs = place (p x) _ (length xs)

-- of images
pub position-map : {X Y : Type 0} (p : Y → Bool) (f : X → Y) (xs : List X) → position p (map f xs) ≡ position (λ x. p (f x)) xs
position-map p f [] = refl
position-map p f (x ∷ xs) = place-cons p (f x) (map f xs) ∙ (ap (λ r. cond (p (f x)) (Some 0) (option_map (λ i. i + 1) r)) (position-map p f xs) ∙ sym (place-cons (λ y. p (f y)) x xs))

shift-or : (b : Bool) (r s : Option ℕ) (n : ℕ) → cond b (Some 0) (option_map (λ i. i + 1) (option_or r (option_map (λ i. n + i) s))) ≡ option_or (cond b (Some 0) (option_map (λ i. i + 1) r)) (option_map (λ i. suc n + i) s)
shift-or true r s n = refl
shift-or false (Some x) s n = refl
shift-or false None (Some y) n = ap Some (omega arith)
shift-or false None None n = refl

none-or : (s : Option ℕ) → s ≡ option_map (λ i. 0 + i) s
none-or (Some x) = ap Some (omega arith)
none-or None = refl

-- in two lists, one after the other
pub position-append : {X : Type 0} (p : X → Bool) (xs ys : List X) → position p (xs ++ ys) ≡ option_or (position p xs) (option_map (λ i. length xs + i) (position p ys))
position-append p [] ys = none-or (position p ys)
position-append p (x ∷ xs) ys = place-cons p x (xs ++ ys) ∙ (ap (λ r. cond (p x) (Some 0) (option_map (λ i. i + 1) r)) (position-append p xs ys)
    ∙ (shift-or (p x) (position p xs) (position p ys) (length xs) ∙ ap (λ r. option_or r (option_map (λ i. suc (length xs) + i) (position p ys))) (sym (place-cons p x xs))))

-- one more at the end
one_more : (b t : Bool) (r : Option ℕ) (n : ℕ) → cond b (Some 0) (option_map (λ i. i + 1) (option_or r (if t then Some n else None))) ≡ option_or (cond b (Some 0) (option_map (λ i. i + 1) r)) (if t then Some (suc n) else None)
one_more true t r n = refl
one_more false t (Some x) n = refl
one_more false true None n = ap Some (omega arith)
one_more false false None n = refl

pub position-push : {X : Type 0} (p : X → Bool) (xs : List X) (x : X) → position p (xs ++ x ∷ []) ≡ option_or (position p xs) (if p x then Some (length xs) else None)
position-push p [] x = place-cons p x []
position-push p (y ∷ ys) x = place-cons p y (ys ++ x ∷ []) ∙ (ap (λ r. cond (p y) (Some 0) (option_map (λ i. i + 1) r)) (position-push p ys x)
    ∙ (one_more (p y) (p x) (position p ys) (length ys) ∙ ap (λ r. option_or r (if p x then Some (suc (length ys)) else None)) (sym (place-cons p y ys))))

-- what stands at the place of a name that is there
at_by_test : {G : Type 0} (g : List ℕ → G) (none : G) (d e : List ℕ) (es : List (List ℕ)) (b : Bool) (p : Option ℕ)
    → (b ≡ true → d ≡ e) → (is_some p ≡ true → unwrap_or (slice_get (map g es) (unwrap_or p 0)) none ≡ g d) → is_some (cond b (Some 0) (option_map (λ n. n + 1) p)) ≡ true
    → unwrap_or (slice_get (map g (e ∷ es)) (unwrap_or (cond b (Some 0) (option_map (λ n. n + 1) p)) 0)) none ≡ g d
at_by_test g none d e es true p same later there = ap g (sym (same refl))
at_by_test g none d e es false None same later there = absurd (true≢false (sym there))
at_by_test g none d e es false (Some n) same later there = let next : n + 1 ≡ suc n = omega arith in ap (λ k. unwrap_or (slice_get (map g (e ∷ es)) k) none) next ∙ later refl

pub at_position : {G : Type 0} (g : List ℕ → G) (none : G) (d : List ℕ) (ds : List (List ℕ)) → is_some (position (bytes_eq d) ds) ≡ true
    → unwrap_or (slice_get (map g ds) (unwrap_or (position (bytes_eq d) ds) 0)) none ≡ g d
at_position g none d [] there = absurd (true≢false (sym there))
at_position g none d (e ∷ es) there =
    rw (place-cons (bytes_eq d) e es) (at_by_test g none d e es (bytes_eq d e) (position (bytes_eq d) es) (bytes_decides d e).0 (at_position g none d es) (rw (sym (place-cons (bytes_eq d) e es)) there))

-- ---- the element at a place

pub get_at : {X : Type 0} (xs : List X) (x : ℕ) (d e : X) → x < length xs → unwrap_or (slice_get xs x) d ≡ slice_index_or xs x e
get_at [] x d e below = absurd (omega (arith, below))
get_at (y ∷ ys) zero d e below = refl
get_at (y ∷ ys) (suc x) d e below = get_at ys x d e (omega (arith, below))

-- of two lists whose images are the same
pub same_at : {X Y A : Type 0} (f : X → A) (g : Y → A) (xs : List X) (ys : List Y) (n : ℕ) (x d : X) (e : Y) → map f xs ≡ map g ys → n < length ys → x ≡ get_or xs n x → f x ≡ g (unwrap_or (slice_get ys n) e)
same_at f g [] [] n x d e m h is = absurd (omega (arith, h))
same_at f g (a ∷ xs) [] n x d e m h is = absurd (omega (arith, h))
same_at f g [] (b ∷ ys) n x d e m h is = absurd (omega (arith, ap length m))
same_at f g (a ∷ xs) (b ∷ ys) zero x d e m h is = ap f is ∙ heads (f a) (g b) (map f xs) (map g ys) m
same_at f g (a ∷ xs) (b ∷ ys) (suc n) x d e m h is = same_at f g xs ys n x d e (tails (f a) (g b) (map f xs) (map g ys) m) (omega (arith, h)) is

-- after a beginning that is dropped, and in front of an end
pub slice_get-drop : {X : Type 0} (f j : ℕ) (xs : List X) → slice_get (drop f xs) j ≡ slice_get xs (f + j)
slice_get-drop zero j xs = let same : j ≡ 0 + j = omega arith in ap (slice_get xs) same
slice_get-drop (suc f) j [] = refl
slice_get-drop (suc f) j (x ∷ xs) = slice_get-drop f j xs ∙ (let same : suc (f + j) ≡ suc f + j = omega arith in ap (slice_get (x ∷ xs)) same)

pub in-front : {X : Type 0} (xs ys : List X) (i : ℕ) (x : X) → slice_get xs i ≡ Some x → slice_get (xs ++ ys) i ≡ Some x
in-front [] ys i x is = absurd cc
in-front (z ∷ xs) ys zero x is = is
in-front (z ∷ xs) ys (suc i) x is = in-front xs ys i x is

-- what holds of all holds of it
pub get-within : {X : Type 0} (xs : List X) (n : ℕ) → n < length xs → (x : X) × (slice_get xs n ≡ Some x)
get-within [] n h = absurd (omega (arith, h))
get-within (x ∷ xs) zero h = (x, refl)
get-within (x ∷ xs) (suc n) h = get-within xs n (omega (arith, h))

pub all-at : {X : Type 0} (P : X → Type 0) (xs : List X) (n : ℕ) (x : X) → All P xs → slice_get xs n ≡ Some x → P x
all-at P [] n x all is = cc
all-at P (y ∷ ys) zero x all is = let same : y ≡ x = cc in subst P same (All-head P y ys all)
all-at P (y ∷ ys) (suc n) x all is = all-at P ys n x (All-tail P y ys all) is

pub at-or : {X : Type 0} (P : X → Type 0) (xs : List X) (i : ℕ) (d : X) → P d → All P xs → P (slice_index_or xs i d)
at-or P [] i d h all = h
at-or P (x ∷ xs) zero d h all = All-head P x xs all
at-or P (x ∷ xs) (suc i) d h all = at-or P xs i d h (All-tail P x xs all)

pub get-or : {X : Type 0} (P : X → Type 0) (xs : List X) (n : ℕ) (d : X) → P d → All P xs → P (unwrap_or (slice_get xs n) d)
get-or P [] n d h all = h
get-or P (x ∷ xs) zero d h all = All-head P x xs all
get-or P (x ∷ xs) (suc n) d h all = get-or P xs n d h (All-tail P x xs all)

-- of images
pub got-map : {X Y : Type 0} (f : X → Y) (xs : List X) (i : ℕ) (y : Y) → slice_get (map f xs) i ≡ Some y → (x : X) × (slice_get xs i ≡ Some x) × (f x ≡ y)
got-map f xs i y is = map_some f (slice_get xs i) y (sym (slice_get-map f xs i) ∙ is)

-- after one is set: the element that was set, or that from before
pub got-set : {X : Type 0} (xs : List X) (i j : ℕ) (x z : X) → slice_get (slice_set xs i x) j ≡ Some z → ((j ≡ i) × (z ≡ x)) ⊎ ((j ≢ i) × (slice_get xs j ≡ Some z))
got-set [] i j x z is = cc
got-set (y ∷ ys) zero zero x z is = inl (refl, cc)
got-set (y ∷ ys) zero (suc j) x z is = inr (λ e. omega (arith, e), is)
got-set (y ∷ ys) (suc i) zero x z is = inr (λ e. omega (arith, e), is)
got-set (y ∷ ys) (suc i) (suc j) x z is = elim (got-set ys i j x z is) [ inl e ↦ inl (ap suc e.0, e.1) | inr e ↦ inr (λ k. e.0 (omega (arith, k)), e.1) ]

zero_suc : (x : ℕ) → (0 == suc x) ≡ false
zero_suc x = grind (arith, nat_tests)

suc_zero : (y : ℕ) → (suc y == 0) ≡ false
suc_zero y = grind (arith, nat_tests)

pub suc_suc : (y x : ℕ) → (suc y == suc x) ≡ (y == x)
suc_suc y x = grind (arith, nat_tests)

pub at_set : {X : Type 0} (all : List X) (y x : ℕ) (w d : X) → y < length all → slice_index_or (slice_set all y w) x d ≡ (if y == x then w else slice_index_or all x d)
at_set [] y x w d below = absurd (omega (arith, below))
at_set (a ∷ as_) zero zero w d below = refl
at_set (a ∷ as_) zero (suc x) w d below = rw (zero_suc x) refl
at_set (a ∷ as_) (suc y) zero w d below = rw (suc_zero y) refl
at_set (a ∷ as_) (suc y) (suc x) w d below = rw (suc_suc y x) (at_set as_ y x w d (omega (arith, below)))

-- where it is set by what stood there
pub at_own : {X : Type 0} (f : X → X) (all : List X) (y x : ℕ) (d : X) → y < length all → slice_index_or (slice_set all y (f (slice_index_or all y d))) x d ≡ (if y == x then f (slice_index_or all x d) else slice_index_or all x d)
at_own f all y x d below = at_set all y x (f (slice_index_or all y d)) d below ∙ by (eqb_tells y x)
  where
    by : ((y == x) ≡ true) × (y ≡ x) ⊎ ((y == x) ≡ false) × (y ≢ x) → (if y == x then f (slice_index_or all y d) else slice_index_or all x d) ≡ (if y == x then f (slice_index_or all x d) else slice_index_or all x d)
    by (inl t) = ap (λ k. if y == x then f (slice_index_or all k d) else slice_index_or all x d) t.1
    by (inr t) = rw t.0 refl

-- what stands where there is nothing is of no account within the list
pub at_any : {X : Type 0} (all : List X) (x : ℕ) (d e : X) → x < length all → slice_index_or all x d ≡ slice_index_or all x e
at_any [] x d e below = absurd (omega (arith, below))
at_any (a ∷ as_) zero d e below = refl
at_any (a ∷ as_) (suc x) d e below = at_any as_ x d e (omega (arith, below))

-- a list that has f of the old one's element at each place
pub map_from_reads : {X : Type 0} (f : X → X) (old new : List X) → length new ≡ length old
    → ((k : ℕ) (d : X) → k < length old → get_or new k d ≡ f (get_or old k d)) → new ≡ map f old
map_from_reads f old new same reads =
    same_lists new (map f old) (same ∙ sym (length-map old f))
    (λ k d within. reads k d (omega arith) ∙ sym (get_or-map f old k d d (omega arith)))

-- ---- numbers of places

pub same-number : (b : ℕ) → (b == b) ≡ true
same-number b = grind (arith, nat_tests)

pub other-number : (b k : ℕ) → k ≢ b → (b == k) ≡ false
other-number b k h = grind (arith, nat_tests, h)

pub equal-number : (a b : ℕ) → a ≡ b → (a == b) ≡ true
equal-number a b e = grind (arith, nat_tests, e)

pub below-tells : (a b : ℕ) → a < b → nat_lt a b ≡ true
below-tells a b h = grind (arith, nat_tests, h)

pub not-below : (a b : ℕ) → b ≤ a → nat_lt a b ≡ false
not-below a b h = grind (arith, nat_tests, h)

pub same-of : (a b : ℕ) → (a == b) ≡ true → a ≡ b
same-of a b h = grind (arith, nat_tests, h)

pub same-unless : (a b : ℕ) → not (a == b) ≡ false → a ≡ b
same-unless a b h = same-of a b (not-false (a == b) h)

pub swap-number : (a b : ℕ) → (a == b) ≡ (b == a)
swap-number a b = either (eqb_tells a b) (eqb_tells b a) where
  either : ((a == b) ≡ true) × (a ≡ b) ⊎ ((a == b) ≡ false) × (a ≢ b) → ((b == a) ≡ true) × (b ≡ a) ⊎ ((b == a) ≡ false) × (b ≢ a) → (a == b) ≡ (b == a)
  either (inl e) (inl f) = e.0 ∙ sym f.0
  either (inl e) (inr f) = absurd (f.1 (sym e.1))
  either (inr e) (inl f) = absurd (e.1 (sym f.1))
  either (inr e) (inr f) = e.0 ∙ sym f.0
