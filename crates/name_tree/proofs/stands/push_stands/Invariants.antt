-- what the loops of `stands::push_stands` keep
use Rattle.std.proofs.Common.{take}
use Rattle.name_tree.proofs.StandLaws.{AreAdded}
use Rattle.name_tree.proofs.stands.push_stands.Given as goal

abbrev pub invariant-loop-spot : goal.invariant-loop-spot
invariant-loop-spot l = AreAdded l.initial.leaves.items l.leaves.items l.initial.stands.items l.stands.items (take l.spot-index l.spots)
