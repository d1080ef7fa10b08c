-- why `laws::user_data_are_minimal` answers as its contract says
use Rattle.session_pres.proofs.ShortestLaws.{user_least}
use Rattle.session_pres.proofs.FieldLaws.{one_length}
use Rattle.session_pres.proofs.laws.user_data_are_minimal.Goals as goal

pub returns : goal.returns
returns c = record { least = user_least; lengths = one_length }
