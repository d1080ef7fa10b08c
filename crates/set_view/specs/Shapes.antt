-- The shapes of the members of a data set, by the numbers of their nodes (IEC 61850-7-2, DATA-SET).
use Rattle.std.specs.Prelude.{◌≡◌, ℕ, ◌<◌, List, [], map, false, slice_index_or}
use Rattle.std.specs.List.{All}
use Rattle.sv_base.specs.declared.numbers.NodeId.{NodeId}
use Rattle.sv_base.specs.declared.types.TypeOf.TheVariants as types
use Rattle.bay_model.specs.declared.tables.MemberShape.{MemberShape}
use Rattle.bay_model.specs.declared.tables.NodeRow.{NodeRow}
use Rattle.bay_model.specs.declared.tables.SetRow.{SetRow}

-- the nodes are among that many
abbrev pub AreThere : ℕ → List NodeId → Type 0
AreThere count nodes = All (λ (n : NodeId). n.0 < count) nodes

abbrev pub AllThere : ℕ → List SetRow → Type 0
AllThere count rows = All (λ (r : SetRow). AreThere count r.nodes) rows

-- what a number of no member has, and what a number of no row gives, is of no account
abbrev pub no_shape : MemberShape
no_shape = record { node = record { 0 = 0 }; kind = types.Bool; attrs = [] }

abbrev pub no_row : NodeRow
no_row = record { allowed = false; octets = 0; shape = no_shape }

abbrev pub shape_of : List NodeRow → NodeId → MemberShape
shape_of rows n = (slice_index_or rows n.0 no_row).shape

abbrev pub shapes_of : List NodeRow → List NodeId → List MemberShape
shapes_of rows nodes = map (shape_of rows) nodes

-- the row of a node has its number
abbrev pub HasNumber : List NodeRow → NodeId → Type 0
HasNumber rows n = (shape_of rows n).node.0 ≡ n.0

abbrev pub node_numbers : List MemberShape → List ℕ
node_numbers shapes = map (λ (m : MemberShape). m.node.0) shapes
