-- what the loops of `book::nodes_of` keep
use Rattle.std.proofs.Common.{◌≡◌, take, map}
use Rattle.data_sets.specs.Books.{node_in}
use Rattle.data_sets.proofs.book.nodes_of.Given as goal

abbrev pub invariant-loop-member : goal.invariant-loop-member
invariant-loop-member l = l.nodes.items ≡ map node_in (take l.member-index l.members)
