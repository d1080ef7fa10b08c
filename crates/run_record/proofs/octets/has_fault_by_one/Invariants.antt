-- what the loops of `octets::has_fault_by_one` keep
use Rattle.run_record.specs.Octets.{IsFaultless}
use Rattle.run_record.proofs.octets.has_fault_by_one.Given as goal

abbrev pub invariant-loop-i : goal.invariant-loop-i
invariant-loop-i l = IsFaultless l.line 1 l.i
