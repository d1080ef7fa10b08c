-- why `laws::values_are_of_their_types` answers as its contract says
use Rattle.text_values.proofs.ValueLaws.{of-kind, in-range, sound}
use Rattle.text_values.proofs.laws.values_are_of_their_types.Goals as goal

pub returns-clause-kinds : goal.returns-clause-kinds
returns-clause-kinds c = of-kind

pub returns-clause-ranges : goal.returns-clause-ranges
returns-clause-ranges c = in-range

pub returns-clause-sound : goal.returns-clause-sound
returns-clause-sound c = sound
