-- The names of the nodes of each domain.
use Rattle.std.specs.Prelude.{◌≡◌, ℕ, suc, ◌+◌, ◌<◌, List, [], ◌∷◌, map, flat_map, length, take, slice_index_or}
use Rattle.sv_base.specs.declared.config.Config.{Config}
use Rattle.bay_model.specs.Names.{sorted}
use Rattle.bay_model.specs.NamedLines.{domains}
use Rattle.bay_model.specs.Named.{places_in}
pub use Rattle.name_leaves.specs.Items.{items_of}
use Rattle.name_order.specs.Sorting.{name_at}
use Rattle.name_tree.specs.declared.directories.Directory.{Directory}

abbrev pub domain_at : Config → ℕ → List ℕ
domain_at c k = slice_index_or (domains c) k []

abbrev pub items_at : Config → ℕ → List (List ℕ)
items_at c k = items_of (places_in c (domain_at c k))

-- the number of the first node of domain k
abbrev pub first_of : Config → ℕ → ℕ
first_of c k = length (flat_map (places_in c) (take k (domains c)))

-- the names of a domain of these items, whose first node has this number: the last one's is a number, too
pub record IsDirectoryOf (number : ℕ) (names : List (List ℕ)) (d : Directory) : Type 0 where
  pub first : d.first ≡ number
  pub items : d.items ≡ names
  pub ascending : map (name_at names) d.ascending.items ≡ sorted names
  pub fits : number + length names < 4294967296

-- the names of domain k
abbrev pub IsDirectory : Config → ℕ → Directory → Type 0
IsDirectory c k d = IsDirectoryOf (first_of c k) (items_at c k) d

-- each at its place, the first at place n
abbrev pub AllFrom : (ℕ → Directory → Type 0) → ℕ → List Directory → Type 0
AllFrom P n [] = Unit {0}
AllFrom P n (d ∷ ds) = P n d × AllFrom P (suc n) ds
