-- why `values::writes_of` answers as its contract says
use Rattle.std.proofs.Common.{◌≡◌, [], map, arith}
use Rattle.std.proofs.lemmas.Grind.{common_steps}
use Rattle.std.specs.List.{zip}
use Rattle.std.specs.Iterator.Adapters.{zip_first, zip_second}
use Rattle.mms_pdu.specs.Datum.{value_at}
use Rattle.mms_pdu.specs.Variable.{variable_octets}
use Rattle.bay_requests.proofs.RequestLaws.{zip_ended}
use Rattle.bay_requests.proofs.values.writes_of.Goals as goal

pub returns : goal.returns
returns c =
    let ended : zip (map variable_octets (zip_first c.loop-variable.variable-iterator)) (map value_at (zip_second c.loop-variable.variable-iterator)) ≡ [] =
    zip_ended variable_octets value_at (zip_first c.loop-variable.variable-iterator) (zip_second c.loop-variable.variable-iterator) c.in-None.ensures.steps in
    grind (arith, common_steps)
