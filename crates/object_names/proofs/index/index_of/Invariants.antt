-- what the loops of `index::index_of` keep
use Rattle.std.proofs.Common.{◌≡◌, take}
use Rattle.object_names.proofs.index.index_of.Given as goal

abbrev pub invariant-loop-name : goal.invariant-loop-name
invariant-loop-name l = l.index ≡ take l.name-index l.names
