-- what the loops of `lines::generated_count` keep
use Rattle.std.proofs.Common.{◌≡◌, flat_map, length, take}
use Rattle.bay_model.specs.Generated.{parameters}
use Rattle.object_names.proofs.lines.generated_count.Given as goal

abbrev pub invariant-loop-control : goal.invariant-loop-control
invariant-loop-control l = l.sum ≡ length (flat_map parameters (take l.control-index l.controls))
