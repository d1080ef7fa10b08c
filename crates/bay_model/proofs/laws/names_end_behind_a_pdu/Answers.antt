-- why `laws::names_end_behind_a_pdu` answers as its contract says
use Rattle.bay_model.proofs.SizeLaws.{rest_is_beyond, names_are_within}
use Rattle.bay_model.proofs.laws.names_end_behind_a_pdu.Goals as goal

pub returns : goal.returns
returns c = record { beyond = rest_is_beyond; within = names_are_within }
