-- why `spelled::events_are_what_octets_spell` answers as its contract says
use Rattle.osi_stack.proofs.GoesLaws.{upper_spells, caller_spells, spells, stands}
use Rattle.osi_stack.proofs.TellsLaws.{tsdu_tells, tsdu_back}
use Rattle.osi_stack.proofs.spelled.events_are_what_octets_spell.Goals as goal

pub returns : goal.returns
returns c = record { upper = upper_spells; caller = caller_spells; spells = spells; stands = stands; tells = tsdu_tells; told = tsdu_back }
