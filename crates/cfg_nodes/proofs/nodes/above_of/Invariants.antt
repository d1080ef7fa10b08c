-- what the loops of `nodes::above_of` keep
use Rattle.std.proofs.Common.{◌≡◌, ℕ, List, take}
use Rattle.cfg_lines.specs.Keys.{is_among}
use Rattle.cfg_lines.specs.Nodes.{reaches}
use Rattle.cfg_nodes.proofs.nodes.above_of.Given as goal

abbrev pub invariant-loop-name : goal.invariant-loop-name
invariant-loop-name l = (node : List ℕ) → is_among l.keys node ≡ reaches (take l.name-index l.names) node
