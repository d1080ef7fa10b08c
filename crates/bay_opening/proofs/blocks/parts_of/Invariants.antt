-- what the loops of `blocks::parts_of` keep
use Rattle.std.proofs.Common.{◌≡◌, take, map}
use Rattle.bay_opening.specs.Opened.{seen, part_defined}
use Rattle.bay_opening.proofs.blocks.parts_of.Given as goal

abbrev pub invariant-loop-def : goal.invariant-loop-def
invariant-loop-def l = map seen l.parts.items ≡ map (part_defined l.book) (take l.def-index l.def-items)
