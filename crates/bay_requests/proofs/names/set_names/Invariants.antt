-- what the loops of `names::set_names` keep
use Rattle.std.proofs.Common.{◌≡◌, ◌++◌, map}
use Rattle.mms_pdu.specs.ObjectName.{name_octets}
use Rattle.bay_requests.specs.Requests.{set_name}
use Rattle.bay_requests.proofs.names.set_names.Given as goal

abbrev pub invariant-loop-name : goal.invariant-loop-name
invariant-loop-name l = l.sets.items ++ map set_name (map name_octets l.name-iterator)
    ≡ l.initial.sets.items ++ map set_name (map name_octets l.initial.name-iterator)
