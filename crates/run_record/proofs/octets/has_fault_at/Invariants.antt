-- what the loops of `octets::has_fault_at` keep
use Rattle.std.proofs.Common.{◌≡◌, ◌+◌, ◌↔◌, false}
use Rattle.run_record.specs.Octets.{IsFaultless}
use Rattle.run_record.proofs.octets.has_fault_at.Given as goal

abbrev pub invariant-loop-k : goal.invariant-loop-k
invariant-loop-k g l = (l.found ≡ false) ↔ IsFaultless l.line l.at (l.at + l.k)
