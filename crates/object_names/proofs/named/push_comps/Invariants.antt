-- what the loops of `named::push_comps` keep
use Rattle.std.proofs.Common.{◌≡◌, ◌++◌, map, take}
use Rattle.bay_model.specs.Generated.{setting_named}
use Rattle.object_names.proofs.named.push_comps.Given as goal

abbrev pub invariant-loop-comp : goal.invariant-loop-comp
invariant-loop-comp l = l.out.items ≡ l.initial.out.items ++ map (setting_named l.domain) (take l.comp-index l.comps)
