-- The numbers of the nodes that shapes are of.
use Rattle.std.proofs.Common.{◌≡◌, refl, ap₂, List, [], ◌∷◌, map, arith}
use Rattle.std.specs.List.{All}
use Rattle.std.proofs.lemmas.List.Elements.{All-tail}
use Rattle.sv_base.specs.declared.numbers.NodeId.{NodeId}
use Rattle.bay_model.specs.declared.tables.NodeRow.{NodeRow}
use Rattle.set_view.specs.Shapes.{HasNumber, node_numbers, shapes_of}

pub numbers_of_shapes : (rows : List NodeRow) (nodes : List NodeId) → All (HasNumber rows) nodes → node_numbers (shapes_of rows nodes) ≡ map (λ n. n.0) nodes
numbers_of_shapes rows [] all = refl
numbers_of_shapes rows (n ∷ ns) all = ap₂ (λ m l. m ∷ l) (all 0 n (omega arith)) (numbers_of_shapes rows ns (All-tail (HasNumber rows) n ns all))
