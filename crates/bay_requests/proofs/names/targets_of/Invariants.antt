-- what the loops of `names::targets_of` keep
use Rattle.std.proofs.Common.{◌≡◌, ◌++◌, map}
use Rattle.mms_pdu.specs.Variable.{variable_octets}
use Rattle.bay_requests.specs.Requests.{listed_target}
use Rattle.bay_requests.proofs.names.targets_of.Given as goal

abbrev pub invariant-loop-variable : goal.invariant-loop-variable
invariant-loop-variable l = l.targets.items ++ map (listed_target l.model) (map variable_octets l.variable-iterator)
    ≡ l.initial.targets.items ++ map (listed_target l.model) (map variable_octets l.initial.variable-iterator)
