-- why `laws::members_are_whole_values` answers as its contract says
use Rattle.value_store.proofs.WholeLaws.{member_is_whole}
use Rattle.value_store.proofs.laws.members_are_whole_values.Goals as goal

pub returns : goal.returns
returns c = member_is_whole
