-- Rows of octets found by a number of each.
use Rattle.std.specs.Prelude.{◌≡◌, ◌<◌, ℕ, nat_eq, Bool, true, false, List, [], ◌∷◌, ◌++◌, length, position, slice_get, Option, None, Some, if◌then◌else◌}
use Rattle.std.specs.List.{All}
use Rattle.std.specs.Str.{bytes_eq}
use Rattle.octet_rows.specs.Hashing.{hash_at}

-- where a row stands among others: its place, counted from 0, of two that are the same the first one's
abbrev pub place_in : List (List ℕ) → List ℕ → Option ℕ
place_in rows row = position (bytes_eq row) rows

-- ---- for the code

-- this row
abbrev pub is_it : List ℕ → Option (List ℕ) → Bool
is_it row None = false
is_it row (Some other) = bytes_eq row other

-- the row at a place is this one
abbrev pub is_at : List (List ℕ) → List ℕ → ℕ → Bool
is_at rows row place = is_it row (slice_get rows place)

-- the first of some places at which it stands
abbrev pub first_at : List (List ℕ) → List ℕ → List ℕ → Option ℕ
first_at rows row [] = None
first_at rows row (place ∷ places) = if is_at rows row place then Some place else first_at rows row places

-- the place that a number has, if it has one, and then the further places
abbrev pub with_first : Option ℕ → List ℕ → List ℕ
with_first None further = further
with_first (Some place) further = place ∷ further

abbrev pub found : List (List ℕ) → (ℕ → Option ℕ) → List ℕ → List ℕ → Option ℕ
found rows first further row = first_at rows row (with_first (first (hash_at row)) further)

-- the first places by the numbers of rows, and the further places, find each row; where there are no further places, each row stands
-- at one place alone
pub record Finds (rows : List (List ℕ)) (first : ℕ → Option ℕ) (further : List ℕ) : Type 0 where
  pub places : (row : List ℕ) → found rows first further row ≡ place_in rows row
  pub absent : (row : List ℕ) → first (hash_at row) ≡ None → place_in rows row ≡ None
  pub first_within : (hash place : ℕ) → first hash ≡ Some place → place < length rows
  pub further_within : All (λ place. place < length rows) further
  pub alone : (row : List ℕ) (place : ℕ) → further ≡ [] → is_at rows row place ≡ true → place_in rows row ≡ Some place

-- nothing is noted
abbrev pub IsSame : (ℕ → Option ℕ) → List ℕ → (ℕ → Option ℕ) → List ℕ → Type 0
IsSame first further next others = (others ≡ further) × ((q : ℕ) → next q ≡ first q)

abbrev pub noted_where : Option ℕ → (ℕ → Option ℕ) → List ℕ → (ℕ → Option ℕ) → List ℕ → ℕ → ℕ → Type 0
noted_where None first further next others hash place = (others ≡ further) × ((q : ℕ) → next q ≡ (if nat_eq hash q then Some place else first q))
noted_where (Some other) first further next others hash place = (others ≡ further ++ place ∷ []) × ((q : ℕ) → next q ≡ first q)

-- the place of one more row of this number is noted: as its first place where the number has none, else after the further places
abbrev pub IsNoted : (ℕ → Option ℕ) → List ℕ → (ℕ → Option ℕ) → List ℕ → ℕ → ℕ → Type 0
IsNoted first further next others hash place = noted_where (first hash) first further next others hash place
