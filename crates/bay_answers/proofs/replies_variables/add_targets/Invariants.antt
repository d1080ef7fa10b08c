-- what the loops of `replies_variables::add_targets` keep
use Rattle.std.proofs.Common.{◌≡◌, ◌++◌, drop}
use Rattle.std.specs.List.{flat_map}
use Rattle.bay_answers.specs.RepliesVariables.{target_octets}
use Rattle.bay_answers.proofs.replies_variables.add_targets.Given as goal

-- what is written and what is left to write make what is wanted
abbrev pub invariant-loop-target : goal.invariant-loop-target
invariant-loop-target l = l.out.items ++ flat_map target_octets (drop l.target-index l.targets) ≡ l.fn.out.items ++ flat_map target_octets l.targets
