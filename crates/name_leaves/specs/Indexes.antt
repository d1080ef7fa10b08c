-- What places of names that stand elsewhere find.
use Rattle.std.specs.Prelude.{◌≡◌, ℕ, List, Option}
use Rattle.std.specs.Str.{bytes_eq}
use Rattle.indexmap.specs.IndexMap.{get_by}
use Rattle.name_leaves.specs.declared.places.Places.{Places}
use Rattle.name_leaves.specs.Numbers.{number_in}

abbrev pub place_in : Places → List ℕ → Option ℕ
place_in places name = get_by (λ k. bytes_eq name k.now) places.numbers

-- they find each name's number in the list
abbrev pub PlacesOf : Places → List (List ℕ) → Type 0
PlacesOf places names = (name : List ℕ) → place_in places name ≡ number_in names name
