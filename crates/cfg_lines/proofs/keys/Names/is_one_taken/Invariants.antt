-- what the loops of `keys::Names::is_one_taken` keep
use Rattle.std.proofs.Common.{◌≡◌, false, map, take}
use Rattle.std.specs.List.{list_any}
use Rattle.cfg_lines.specs.Keys.{octets_of}
use Rattle.cfg_lines.specs.Paths.{is_taken}
use Rattle.cfg_lines.proofs.keys.Names.is_one_taken.Given as goal

abbrev pub invariant-loop-path : goal.invariant-loop-path
invariant-loop-path l = list_any (λ path. is_taken l.self path) (map octets_of (take l.path-index l.paths)) ≡ false
