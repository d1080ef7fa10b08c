-- What an index of nodes finds.
use Rattle.std.specs.Prelude.{◌≡◌, ◌<◌, ℕ, zero, suc, ◌==◌, ◌||◌, ◌&&◌, not, nat_lt, Bool, true, List, [], length, take, slice_get, slice_index, Option, Some, None, is_some, unwrap_or, if◌then◌else◌}
use Rattle.octet_rows.specs.Found.{place_in}
use Rattle.cfg_lines.specs.Keys.{is_among}
use Rattle.cfg_lines.specs.Sizes.{octets_of, leaf_octets, with_edge, with_name}
use Rattle.cfg_nodes.specs.declared.sizes.Sizes.{Sizes}
use Rattle.cfg_nodes.specs.declared.parts.Parts.{Parts}
use Rattle.cfg_nodes.specs.declared.nodes.Nodes.{Nodes}

abbrev pub octets_in : Sizes → List ℕ → Option ℕ
octets_in sizes node = leaf_octets sizes.leaves.now node

abbrev pub parts_of : List (List (List ℕ)) → Option ℕ → List (List ℕ)
parts_of parts None = []
parts_of parts (Some place) = unwrap_or (slice_get parts place) []

abbrev pub parts_in : Parts → List ℕ → List (List ℕ)
parts_in parts node = parts_of parts.parts.items (place_in parts.structures node)

-- the place of a structure, if there is one, among those that have parts
abbrev pub IsWithin : Parts → Option ℕ → Type 0
IsWithin parts None = Unit {0}
IsWithin parts (Some place) = place < length parts.parts.items

abbrev pub IsPlaced : Parts → Option (List ℕ) → Option ℕ → Type 0
IsPlaced parts None place = place ≡ None
IsPlaced parts (Some front) place = (place ≡ place_in parts.structures front) × (is_some place ≡ true)

-- with one more part of a structure, if there is one
abbrev pub with_part : List ℕ → List (List ℕ) → Option (List ℕ) → List ℕ → List (List ℕ)
with_part node parts None part = parts
with_part node parts (Some front) part = with_edge node parts (front, part)

-- the longest structure above a path, of its first octets
abbrev pub last_front : ℕ → List ℕ → Option (List ℕ)
last_front zero path = None
last_front (suc n) path = if slice_index path n == 36 then Some (take n path) else last_front n path

abbrev pub with_front : List ℕ → List (List ℕ) → Option (List ℕ) → List (List ℕ)
with_front node parts None = parts
with_front node parts (Some front) = with_name node parts front

-- a number, if it is at most 500, and else 501
abbrev pub capped : ℕ → ℕ
capped octets = if nat_lt 500 octets then 501 else octets

-- a node has octets of its own or is a structure, or no data set may have it
abbrev pub is_node_in : Nodes → List ℕ → Bool
is_node_in nodes node = (is_some (octets_in nodes.sizes node) || is_among nodes.parts.structures node) || is_among nodes.closed node

abbrev pub is_member_in : Nodes → List ℕ → Bool
is_member_in nodes node = not (is_among nodes.closed node) && not (nat_lt 500 (octets_of 10 (octets_in nodes.sizes) (parts_in nodes.parts) node))
