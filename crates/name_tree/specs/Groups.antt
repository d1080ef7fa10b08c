-- What is named, in groups by the first name.
use Rattle.std.specs.Prelude.{◌≡◌, ℕ, ◌-◌, List, [], ◌∷◌, ◌++◌, length, take, map, if◌then◌else◌}
use Rattle.std.specs.Str.{bytes_eq}
use Rattle.bay_model.specs.Generated.{Named}
use Rattle.name_leaves.specs.declared.places.Places.{Places}
use Rattle.name_leaves.specs.Indexes.{PlacesOf}
use Rattle.bay_model.specs.NameTree.{first_names, first_name, rest_of, is_itself, below}

-- a first name, with what stands below it
pub record Group : Type 0 where
  pub name : List ℕ
  pub names : List Named

abbrev pub group_name : Group → List ℕ
group_name g = g.name

abbrev pub group_at : List Named → List ℕ → Group
group_at ns name = record { name = name; names = below name ns }

-- one group for each first name, in the order in which they first stand
abbrev pub groups : List Named → List Group
groups ns = map (group_at ns) (first_names ns)

abbrev pub with_cut : Group → Named → Group
with_cut g n = record { name = g.name; names = g.names ++ n ∷ [] }

-- in the group of a name, which is the last where there was none
abbrev pub put : List Group → List ℕ → Named → List Group
put [] name rest = record { name = name; names = rest ∷ [] } ∷ []
put (g ∷ gs) name rest = if bytes_eq name g.name then with_cut g rest ∷ gs else g ∷ put gs name rest

-- one more that is named
abbrev pub with_named : List Group → Named → List Group
with_named gs n = if is_itself n then gs else put gs (first_name n) (rest_of n)

-- ---- for the code

-- they are those of something that is named
abbrev pub AreGroups : List Group → Type 0
AreGroups gs = (ns : List Named) × (gs ≡ groups ns)

-- the places of all names but the last
abbrev pub PlacesFront : Places → List (List ℕ) → Type 0
PlacesFront places names = PlacesOf places (take (length names - 1) names)
