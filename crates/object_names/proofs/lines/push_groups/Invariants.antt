-- what the loops of `lines::push_groups` keep
use Rattle.std.proofs.Common.{◌≡◌, ◌++◌, map, take, position, unwrap_or}
use Rattle.std.specs.Str.{bytes_eq}
use Rattle.bay_model.specs.NamedLines.{group_line}
use Rattle.object_names.proofs.lines.push_groups.Given as goal

abbrev pub invariant-loop-group : goal.invariant-loop-group
invariant-loop-group l = l.out.items ≡ l.initial.out.items ++ map (λ g. group_line (unwrap_or (position (bytes_eq g.domain) l.domains) 0) g) (take l.group-index l.groups)
