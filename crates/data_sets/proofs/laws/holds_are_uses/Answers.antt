-- why `laws::holds_are_uses` answers as its contract says
use Rattle.data_sets.proofs.RoomLaws.{in_use, holds_few}
use Rattle.data_sets.proofs.laws.holds_are_uses.Goals as goal

pub returns-clause-used : goal.returns-clause-used
returns-clause-used c = λ b c' k past h below. in_use b c' past k h below

pub returns-clause-few : goal.returns-clause-few
returns-clause-few c = λ b n k all used h below. holds_few b n k all used h below
