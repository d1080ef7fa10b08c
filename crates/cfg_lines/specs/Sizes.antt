-- The most octets of the Data of nodes (ISO 9506-2, Data), by those of the nodes without parts.
use Rattle.std.specs.Prelude.{ℕ, zero, suc, ◌+◌, ◌/◌, ◌==◌, List, [], ◌∷◌, length, take, slice_index, fold, if◌then◌else◌, Option, Some, None, unwrap_or}
use Rattle.std.specs.List.{sum_by}
use Rattle.std.specs.Str.{bytes_eq}
use Rattle.sv_base.specs.Data.{length_field}
use Rattle.sv_base.specs.declared.types.TypeOf.{TypeOf}
use Rattle.sv_base.specs.declared.types.TypeOf.TheVariants as types
use Rattle.cfg_lines.specs.Keys.{added}
use Rattle.cfg_lines.specs.declared.leaf.Leaf.{Leaf}

-- the octets of Data with n octets of content
abbrev pub element_octets : ℕ → ℕ
element_octets content = 1 + (length (length_field content) + content)

-- The most octets that the Data of a type may have. An unsigned number may need an octet of zeros in front.
abbrev pub most_octets : TypeOf → ℕ
most_octets types.Bool = 3
most_octets (types.Int bits) = element_octets (bits / 8)
most_octets (types.Uint bits) = element_octets (bits / 8 + 1)
most_octets (types.Bits count) = element_octets (1 + (count + 7) / 8)
most_octets types.Time = 10
most_octets (types.Text most) = element_octets most
most_octets (types.Octets most) = element_octets most
most_octets _ = 0

-- those of the node of a name, if it has no parts
abbrev pub leaf_octets : List Leaf → List ℕ → Option ℕ
leaf_octets [] node = None
leaf_octets (leaf ∷ all) node = if bytes_eq node leaf.name then Some leaf.octets else leaf_octets all node

-- each structure above a path, with what is directly below it on the way there; of its first octets, before a part
abbrev pub edges_within : ℕ → List ℕ → List ℕ → List (List ℕ × List ℕ)
edges_within zero part path = []
edges_within (suc n) part path = if slice_index path n == 36 then (take n path, part) ∷ edges_within n (take n path) path else edges_within n part path

abbrev pub edges : List ℕ → List (List ℕ × List ℕ)
edges path = edges_within (length path) path path

-- the nodes directly below a node, each once, where it stands first
abbrev pub with_edge : List ℕ → List (List ℕ) → List ℕ × List ℕ → List (List ℕ)
with_edge node parts edge = if bytes_eq node edge.0 then added parts edge.1 else parts

abbrev pub with_name : List ℕ → List (List ℕ) → List ℕ → List (List ℕ)
with_name node parts name = fold (with_edge node) parts (edges name)

abbrev pub children : List (List ℕ) → List ℕ → List (List ℕ)
children names node = fold (with_name node) [] names

-- The most octets of a node's Data, by those of the nodes without parts, and by what is directly below a node. The number
-- bounds how deep it goes.
unfoldable pub octets_of : ℕ → (List ℕ → Option ℕ) → (List ℕ → List (List ℕ)) → List ℕ → ℕ
octets_of zero leaf parts node = 0
octets_of (suc depth) leaf parts node = unwrap_or (leaf node) (element_octets (sum_by (λ part. octets_of depth leaf parts part) (parts node)))
