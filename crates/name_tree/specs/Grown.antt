-- What grows out of what is named: the nodes of names side by side, and what these are as parts of a structure.
use Rattle.std.specs.Prelude.{◌≡◌, ℕ, ◌+◌, List, [], ◌∷◌, ◌&&◌, Bool, false, None, length}
use Rattle.std.specs.Option.{option_map}
use Rattle.name_leaves.specs.declared.what.What.TheVariants as whats
use Rattle.name_leaves.specs.Leaves.{leaves, leaves_side, leaf_code, what_code}
pub use Rattle.name_leaves.specs.Items.{items_of}
use Rattle.name_tree.specs.Leaves.{own, own_with, leaves_with}
use Rattle.sv_base.specs.declared.types.TypeOf.TheVariants as types
use Rattle.sv_base.specs.Types.{Fields}
use Rattle.sv_base.specs.Fields.{parts_of}
use Rattle.bay_model.specs.NameTree.{Forest, nothing, named, role_of, own_type, grown}
use Rattle.bay_model.specs.Places.{Place, fields, attrs_in, are_data, type_with, attrs_of_role, is_data_role, trees}
use Rattle.name_tree.specs.Groups.{Group}
use Rattle.name_tree.specs.declared.growth.Spot.{Spot}
use Rattle.name_tree.specs.declared.growth.Grown.{Grown}

-- a node as the code has it, but for its item
abbrev pub spot : Place → Spot
spot p = record { kind = p.kind; attrs = length p.attrs; is_data = p.is_data; what = what_code p.role; own = option_map leaf_code (own p.tree); leaves = length (leaves p.tree) }

-- names side by side
pub record IsGrown (g : Grown) (f : Forest) : Type 0 where
  pub parts : g.parts.items ≡ parts_of (fields f)
  pub attrs : g.attrs ≡ length (attrs_in f)
  pub is_data : g.is_data ≡ are_data f
  pub leaves : g.leaves ≡ length (leaves_side (trees f))

-- what stands in the place of a node until its parts have grown
abbrev pub room : Spot
room = record { kind = types.Bool; attrs = 0; is_data = false; what = whats.Structure; own = None; leaves = 0 }

-- the names of groups, each as many levels deep
abbrev pub forest_of : ℕ → List Group → Forest
forest_of levels [] = nothing
forest_of levels (g ∷ gs) = named g.name (role_of g.names) (own_type g.names) (grown levels g.names) (forest_of levels gs)

-- the node of a group, of these parts
abbrev pub spot_with : Group → Fields → ℕ → Bool → ℕ → Spot
spot_with g parts attrs is_data below = record { kind = type_with (own_type g.names) parts; attrs = length (attrs_of_role (role_of g.names)) + attrs; is_data = is_data_role (role_of g.names) && is_data; what = what_code (role_of g.names); own = option_map leaf_code (own_with (role_of g.names) parts); leaves = leaves_with g parts below }
