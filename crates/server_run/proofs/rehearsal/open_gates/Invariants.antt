-- what the loops of `rehearsal::open_gates` keep
use Rattle.std.proofs.Common.{◌≡◌, length}
use Rattle.server_run.proofs.rehearsal.open_gates.Given as goal

abbrev pub invariant-loop : goal.invariant-loop
invariant-loop l = length l.gates.items ≡ l.counter
