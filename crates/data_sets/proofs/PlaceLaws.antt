-- The first set of a test.
use Rattle.std.proofs.Common.{◌≡◌, ◌<◌, ℕ, zero, suc, Bool, true, false, List, [], ◌∷◌, ◌++◌, length, map, take, drop, refl, ap, subst, ◌∙◌, arith, Option, None, Some, slice_index_or}
use Rattle.std.specs.Prelude.{if◌then◌else◌}
use Rattle.std.specs.Option.{option_map}
use Rattle.data_sets.specs.Books.{Booked, place_of, no_set}

pub first_place : (p : Booked → Bool) (bs : List Booked) (k : ℕ) → k < length bs → ((j : ℕ) → j < k → p (slice_index_or bs j no_set) ≡ false) → p (slice_index_or bs k no_set) ≡ true → place_of p bs ≡ Some k
first_place p [] k below none is = absurd (omega (arith, below))
first_place p (b ∷ bs) zero below none is = ap (λ t. if t then Some 0 else option_map suc (place_of p bs)) is
first_place p (b ∷ bs) (suc k) below none is = ap (λ t. if t then Some 0 else option_map suc (place_of p bs)) (none 0 (omega arith))
    ∙ ap (option_map suc) (first_place p bs k (omega (arith, below)) (λ j lj. none (suc j) (omega (arith, lj))) is)

pub no_place : (p : Booked → Bool) (bs : List Booked) → ((j : ℕ) → j < length bs → p (slice_index_or bs j no_set) ≡ false) → place_of p bs ≡ None
no_place p [] none = refl
no_place p (b ∷ bs) none = ap (λ t. if t then Some 0 else option_map suc (place_of p bs)) (none 0 (omega arith))
    ∙ ap (option_map suc) (no_place p bs (λ j lj. none (suc j) (omega (arith, lj))))

pub map_removed : {A : Type 0} {B : Type 0} (f : A → B) (xs : List A) (k : ℕ) → map f (take k xs ++ drop (suc k) xs) ≡ take k (map f xs) ++ drop (suc k) (map f xs)
map_removed f [] zero = refl
map_removed f [] (suc k) = refl
map_removed f (x ∷ xs) zero = refl
map_removed f (x ∷ xs) (suc k) = ap (λ l. f x ∷ l) (map_removed f xs k)

abbrev IsWithin : ℕ → Option ℕ → Type 0
IsWithin n None = Unit {0}
IsWithin n (Some j) = j < n

next_within : (n : ℕ) (o : Option ℕ) → IsWithin n o → IsWithin (suc n) (option_map suc o)
next_within n None h = tt
next_within n (Some j) h = omega (arith, h)

all_within : (p : Booked → Bool) (bs : List Booked) → IsWithin (length bs) (place_of p bs)
all_within p [] = tt
all_within p (b ∷ bs) = by (p b) (all_within p bs)
  where
    by : (t : Bool) → IsWithin (length bs) (place_of p bs) → IsWithin (length (b ∷ bs)) (if t then Some 0 else option_map suc (place_of p bs))
    by true h = omega arith
    by false h = next_within (length bs) (place_of p bs) h

pub within : (p : Booked → Bool) (bs : List Booked) (k : ℕ) → place_of p bs ≡ Some k → k < length bs
within p bs k is = subst (IsWithin (length bs)) is (all_within p bs)
