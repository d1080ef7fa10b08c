-- what the loops of `references::control_references` keep
use Rattle.std.proofs.Common.{◌≡◌, map, take}
use Rattle.bay_model.specs.Configured.{control_defined}
use Rattle.object_names.proofs.references.control_references.Given as goal

abbrev pub invariant-loop-control : goal.invariant-loop-control
invariant-loop-control l = l.references ≡ map (λ b. (control_defined b).reference) (take l.control-index l.control-items)
