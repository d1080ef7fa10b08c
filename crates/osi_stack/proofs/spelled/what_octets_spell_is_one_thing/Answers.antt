-- why `spelled::what_octets_spell_is_one_thing` answers as its contract says
use Rattle.osi_stack.proofs.GoesLaws.{one_spelled, one_told, one_request, one_response, one_data}
use Rattle.osi_stack.proofs.spelled.what_octets_spell_is_one_thing.Goals as goal

pub returns : goal.returns
returns c = record { stream = one_spelled; tsdu = one_told; request = one_request; response = one_response; value = one_data }
