-- what the loops of `references::block_references` keep
use Rattle.std.proofs.Common.{◌≡◌, map, take}
use Rattle.bay_model.specs.Configured.{block_defined}
use Rattle.object_names.proofs.references.block_references.Given as goal

abbrev pub invariant-loop-block : goal.invariant-loop-block
invariant-loop-block l = l.references ≡ map (λ b. (block_defined b).reference) (take l.block-index l.block-items)
