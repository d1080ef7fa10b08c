-- what the loops of `values::values_of` keep
use Rattle.std.proofs.Common.{◌≡◌, ◌++◌, map}
use Rattle.sv_base.specs.Same.{value_of}
use Rattle.mms_pdu.specs.Datum.{value_at}
use Rattle.bay_requests.proofs.values.values_of.Given as goal

abbrev pub invariant-loop-datum : goal.invariant-loop-datum
invariant-loop-datum l = l.read.items ++ map value_of (map value_at l.datum-iterator)
    ≡ l.initial.read.items ++ map value_of (map value_at l.initial.datum-iterator)
