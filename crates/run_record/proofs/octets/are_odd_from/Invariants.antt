-- what the loops of `octets::are_odd_from` keep
use Rattle.std.proofs.Common.{◌≡◌}
use Rattle.std.specs.List.{slice_range}
use Rattle.run_record.specs.Octets.{has_odd_spaces}
use Rattle.run_record.proofs.octets.are_odd_from.Given as goal

abbrev pub invariant-loop-i : goal.invariant-loop-i
invariant-loop-i l = l.odd ≡ has_odd_spaces (slice_range l.text l.at l.i)
