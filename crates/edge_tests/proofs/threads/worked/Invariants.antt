-- what the loops of `threads::worked` keep
use Rattle.std.proofs.Common.{◌≡◌}
use Rattle.edge_tests.proofs.threads.worked.Given as goal

abbrev pub invariant-loop-n : goal.invariant-loop-n
invariant-loop-n g l = (l.pass.table ≡ l.initial.pass.table) × (l.pass.config ≡ l.initial.pass.config)
