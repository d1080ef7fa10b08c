-- why `laws::one_edits` answers as its contract says
use Rattle.bay_model.proofs.EditLaws.{holders_edit, edits_are_held, holder_is_one}
use Rattle.bay_model.proofs.laws.one_edits.Goals as goal

pub returns : goal.returns
returns c = record { holds = holders_edit; held = edits_are_held; one = holder_is_one }
