-- what the loop of `crowd::ticked` keeps
use Rattle.std.proofs.Common.{◌≡◌}
use Rattle.edge_tests.proofs.crowd.ticked.Given as goal

abbrev pub invariant-loop : goal.invariant-loop
invariant-loop g l = (l.pass.table ≡ l.initial.pass.table) × (l.pass.config ≡ l.initial.pass.config)
