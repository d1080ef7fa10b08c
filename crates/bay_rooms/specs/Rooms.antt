-- Lists in memory that was allocated before.
use Rattle.std.specs.Prelude.{ℕ, zero, suc, slice_index_or, ◌≡◌, ◌≤◌, List, [], ◌∷◌, length}
use Rattle.std.specs.List.{slice_range}

-- the octets of each member; how many members fit, and how many octets in all
pub record FilledMembers : Type 0 where
  pub items : List (List ℕ)
  pub members : ℕ
  pub room : ℕ

-- octets, cut at these places from the first on
abbrev pub cut_at : ℕ → List ℕ → List ℕ → List (List ℕ)
cut_at from [] octets = []
cut_at from (end ∷ ends) octets = slice_range octets from end ∷ cut_at end ends octets

-- the places ascend, and the last is the end
abbrev pub IsCut : ℕ → List ℕ → List ℕ → Type 0
IsCut from [] octets = from ≡ length octets
IsCut from (end ∷ ends) octets = (from ≤ end) × IsCut end ends octets

-- the end of the part before the one at a place, or where the first begins
abbrev pub begins : ℕ → List ℕ → ℕ → ℕ
begins from ends zero = from
begins from ends (suc i) = slice_index_or ends i 0
