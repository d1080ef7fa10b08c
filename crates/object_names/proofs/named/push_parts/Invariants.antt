-- what the loops of `named::push_parts` keep
use Rattle.std.proofs.Common.{◌≡◌, ◌++◌, map, take}
use Rattle.bay_model.specs.Generated.{part_named}
use Rattle.object_names.proofs.named.push_parts.Given as goal

abbrev pub invariant-loop-part : goal.invariant-loop-part
invariant-loop-part l = l.out.items ≡ l.initial.out.items ++ map (part_named l.kind l.item) (take l.part-index l.parts)
