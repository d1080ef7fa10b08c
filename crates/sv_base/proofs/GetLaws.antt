-- What a `get` gives is the element at the place, if there is one.
use Rattle.std.proofs.Common.{◌≡◌, ℕ, ◌<◌, ◌≤◌, List, length, Bor, sym, refl}
use Rattle.std.specs.Prelude.{Option, Some, None, MatchOption, option_copied, slice_get}
use Rattle.std.specs.List.{HoldsAt}
use Rattle.std.proofs.lemmas.Option.{slice_get_past, slice_get_read}

pub got : {X : Type 0} (r : Option (Bor X)) (xs : List X) (i : ℕ) → MatchOption r (length xs ≤ i) (λ x. (i < length xs) × HoldsAt (λ y. x.now ≡ y) xs i) → option_copied r ≡ slice_get xs i
got None xs i past = sym (slice_get_past xs i past)
got (Some x) xs i within = sym (slice_get_read xs (length xs) i x.now refl within.0 (within.1 x.now))
