-- what the loops of `lines::domains` keep
use Rattle.std.proofs.Common.{◌≡◌, [], drop}
use Rattle.bay_model.specs.Configured.{domains_after}
use Rattle.object_names.proofs.lines.domains.Given as goal

abbrev pub invariant-loop-node : goal.invariant-loop-node
invariant-loop-node l = domains_after l.domains.items (drop l.node-index l.nodes) ≡ domains_after [] l.nodes
