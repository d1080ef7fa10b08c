-- The attributes of the nodes of a domain in one row, in the order of the nodes: those of each node stand side by side.
use Rattle.std.specs.Prelude.{ℕ, suc, ◌&&◌, List, [], ◌∷◌, map, flat_map, length, take, drop, min}
use Rattle.std.specs.List.{list_any}
use Rattle.std.specs.Str.{bytes_eq}
use Rattle.sv_base.specs.declared.numbers.AttrId.{AttrId}
use Rattle.bay_model.specs.declared.tables.NodeRow.{NodeRow}
use Rattle.bay_model.specs.Places.{attrs_of_role, largest, constraint, member_constraints}
use Rattle.name_order.specs.Sorting.{name_at}
use Rattle.name_leaves.specs.declared.what.What.{What}
use Rattle.name_leaves.specs.Seen.{role_seen}
use Rattle.name_tree.specs.declared.growth.Spot.{Spot}
use Rattle.name_tree.specs.Nodes.{attr_id}

-- the attribute that a name is itself, if it is one
abbrev pub own_attrs : What → List AttrId
own_attrs w = map attr_id (attrs_of_role (role_seen w))

-- the attributes of nodes: each stands once, where its own node comes
abbrev pub attrs_in_spots : List Spot → List AttrId
attrs_in_spots ss = flat_map (λ (s : Spot). own_attrs s.what) ss

-- ---- for the code

-- node number n at an item, with these attributes
abbrev pub row_with : ℕ → List ℕ → Spot → List AttrId → NodeRow
row_with n item s as_ = record {
  allowed = s.is_data && list_any (bytes_eq (constraint item)) member_constraints;
  octets = min (largest s.kind) 4294967295;
  shape = record { node = record { 0 = n }; kind = s.kind; attrs = as_ };
}

-- nodes at these items, whose attributes stand in a row: a node's begin after those that the nodes before it are themselves
abbrev pub rows_with : ℕ → List (List ℕ) → List AttrId → List Spot → List NodeRow
rows_with n items as_ [] = []
rows_with n items as_ (s ∷ ss) = row_with n (name_at items 0) s (take s.attrs as_) ∷ rows_with (suc n) (drop 1 items) (drop (length (own_attrs s.what)) as_) ss
