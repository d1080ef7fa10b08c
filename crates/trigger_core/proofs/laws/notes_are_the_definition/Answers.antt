-- why `laws::notes_are_the_definition` answers as its contract says
use Rattle.trigger_core.proofs.NoteLaws.{note_is_noted}
use Rattle.trigger_core.proofs.laws.notes_are_the_definition.Goals as goal

pub returns : goal.returns
returns c = note_is_noted
