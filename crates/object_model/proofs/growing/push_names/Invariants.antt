-- what the loops of `growing::push_names` keep
use Rattle.std.proofs.Common.{◌≡◌, ◌++◌, take}
use Rattle.object_model.proofs.growing.push_names.Given as goal

abbrev pub invariant-loop-named : goal.invariant-loop-named
invariant-loop-named l = l.out.items ≡ l.initial.out.items ++ take l.named-index l.names
