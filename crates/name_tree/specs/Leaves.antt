-- The leaves of a name and of its parts, for the code.
use Rattle.std.specs.Prelude.{ℕ, ◌+◌, Option, Some, None}
use Rattle.std.specs.Option.{option_map}
use Rattle.sv_base.specs.Types.{Fields, no_field}
use Rattle.bay_model.specs.Model.{Leaf, Role, Tree, leaf, structure}
use Rattle.bay_model.specs.NameTree.{role_of}
use Rattle.name_leaves.specs.Leaves.{own_leaf, leaf_code}
use Rattle.name_tree.specs.Groups.{Group}

-- the leaf that a tree is
abbrev pub own : Tree → Option Leaf
own (leaf l) = Some l
own (structure ts) = None

-- the leaf of a name with these parts
abbrev pub own_with : Role → Fields → Option Leaf
own_with r no_field = own_leaf r
own_with r fs = None

abbrev pub own_count : {L : Type 0} → Option L → ℕ
own_count None = 0
own_count (Some l) = 1

abbrev pub leaves_with : Group → Fields → ℕ → ℕ
leaves_with g fs below = own_count (option_map leaf_code (own_with (role_of g.names) fs)) + below
