-- what the loops of `keys::Names::add_all` keep
use Rattle.std.proofs.Common.{◌≡◌, ℕ, List, ◌||◌, map, take}
use Rattle.cfg_lines.specs.Keys.{octets_of}
use Rattle.cfg_lines.specs.Paths.{is_taken}
use Rattle.cfg_lines.proofs.keys.Names.add_all.Given as goal

abbrev pub invariant-loop-path : goal.invariant-loop-path
invariant-loop-path l = (q : List ℕ) → is_taken l.self q ≡ (is_taken (map octets_of (take l.path-index l.paths)) q || is_taken l.initial.self q)
