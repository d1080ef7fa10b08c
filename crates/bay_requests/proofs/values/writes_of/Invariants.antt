-- what the loops of `values::writes_of` keep
use Rattle.std.proofs.Common.{◌≡◌, ◌++◌, map}
use Rattle.std.specs.List.{zip}
use Rattle.std.specs.Iterator.Adapters.{zip_first, zip_second}
use Rattle.mms_pdu.specs.Datum.{value_at}
use Rattle.mms_pdu.specs.Variable.{variable_octets}
use Rattle.bay_requests.specs.Requests.{write}
use Rattle.bay_requests.proofs.values.writes_of.Given as goal

-- what is written, and what is left of the variables and of the values
abbrev pub invariant-loop-variable : goal.invariant-loop-variable
invariant-loop-variable l =
    l.writes.items ++ map (write l.model) (zip (map variable_octets (zip_first l.variable-iterator)) (map value_at (zip_second l.variable-iterator)))
    ≡ l.initial.writes.items
    ++ map (write l.model) (zip (map variable_octets (zip_first l.initial.variable-iterator)) (map value_at (zip_second l.initial.variable-iterator)))
