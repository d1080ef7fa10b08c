-- The tree of names of a domain: below a logical node the items `LN$FC`, `LN$FC$DO` and so on down to the attributes and the
-- components, side by side in the order in which the lines of the configuration first name them (IEC 61850-8-1, the names of
-- MMS variables; ISO 9506-2, their types).
use Rattle.std.specs.Prelude.{ℕ, zero, suc, max, Bool, not, ◌&&◌, ◌==◌, List, [], ◌∷◌, ◌++◌, map, length, fold, unwrap_or, if◌then◌else◌}
use Rattle.std.specs.Option.{option_map}
use Rattle.std.specs.List.{filter, find, list_any, before_first, after_first}
use Rattle.std.specs.Str.{bytes_eq}
use Rattle.sv_base.specs.Types.{no_field}
use Rattle.sv_base.specs.declared.types.TypeOf.{TypeOf}
use Rattle.sv_base.specs.declared.types.TypeOf.TheVariants as types
use Rattle.bay_model.specs.Model.{Role, several}
use Rattle.bay_model.specs.Generated.{Named}

-- names side by side: each with what it is, its type where it has no parts, and its parts
pub data Forest : Type 0 where
  nothing : Forest
  named : (name : List ℕ) → Role → TypeOf → (parts : Forest) → (others : Forest) → Forest

-- the name up to the first `$`; what stands after that
abbrev pub first_name : Named → List ℕ
first_name n = before_first (λ o. o == 36) n.item

abbrev pub rest_of : Named → Named
rest_of n = record n { item = after_first (λ o. o == 36) n.item }

abbrev pub is_itself : Named → Bool
is_itself n = length n.item == 0

-- what stands below a name, with the name itself as the empty item
abbrev pub below : List ℕ → List Named → List Named
below name ns = map rest_of (filter (λ (n : Named). not (is_itself n) && bytes_eq name (first_name n)) ns)

-- each first name once, in the order in which they first stand
abbrev pub with_name : List (List ℕ) → List ℕ → List (List ℕ)
with_name names n = if list_any (bytes_eq n) names then names else names ++ n ∷ []

abbrev pub first_names : List Named → List (List ℕ)
first_names ns = fold with_name [] (map first_name (filter (λ n. not (is_itself n)) ns))

-- what the name itself is; a structure where only parts of it are named
abbrev pub role_of : List Named → Role
role_of ns = unwrap_or (option_map (λ (n : Named). n.role) (find is_itself ns)) several

abbrev pub own_type : List Named → TypeOf
own_type ns = unwrap_or (option_map (λ (n : Named). n.kind) (find is_itself ns)) (types.Struct no_field)

abbrev pub side_by_side : (List ℕ → Forest → Forest) → List (List ℕ) → Forest
side_by_side add [] = nothing
side_by_side add (n ∷ ns) = add n (side_by_side add ns)

-- the tree of what is named, as many levels deep
abbrev pub grown : ℕ → List Named → Forest
grown zero ns = nothing
grown (suc levels) ns = side_by_side (λ name others. named name (role_of (below name ns)) (own_type (below name ns)) (grown levels (below name ns)) others) (first_names ns)

-- no item has more levels than octets, and one more
abbrev pub longest : List Named → ℕ
longest [] = 0
longest (n ∷ ns) = max (length n.item) (longest ns)

abbrev pub tree_of : List Named → Forest
tree_of ns = grown (suc (longest ns)) ns
