-- what the loops of `growing::push_lines` keep
use Rattle.std.proofs.Common.{◌≡◌, ◌++◌, take, flat_map}
use Rattle.bay_model.specs.NamedLines.{Line}
use Rattle.object_model.proofs.growing.push_lines.Given as goal

abbrev pub invariant-loop-line : goal.invariant-loop-line
invariant-loop-line l = l.out.items ≡ l.initial.out.items ++ flat_map (λ (k : Line). k.names) (take l.line-index l.lines)
