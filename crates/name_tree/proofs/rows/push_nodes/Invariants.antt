-- what the loops of `rows::push_nodes` keep
use Rattle.std.proofs.Common.{◌≡◌, ◌++◌, length, drop}
use Rattle.name_tree.specs.Nodes.{names_at}
use Rattle.name_tree.specs.Attrs.{rows_with}
use Rattle.name_tree.proofs.rows.push_nodes.Given as goal

abbrev pub invariant-loop-spot : goal.invariant-loop-spot
invariant-loop-spot l = record {
  rows : l.rows.items ++ rows_with (length l.rows.items) (drop l.place l.items) (drop l.first l.attrs) l.spot-iterator.rest.items ≡ l.initial.rows.items ++ rows_with (length l.initial.rows.items) l.items l.attrs l.initial.spot-iterator.rest.items;
  names : l.names.items ++ names_at l.domain l.place l.spot-iterator.rest.items ≡ l.initial.names.items ++ names_at l.domain 0 l.initial.spot-iterator.rest.items;
}
