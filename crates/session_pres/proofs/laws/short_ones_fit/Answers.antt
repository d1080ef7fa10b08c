-- why `laws::short_ones_fit` answers as its contract says
use Rattle.session_pres.proofs.FitLaws.{data_short, release_short, accept_short, connect_short, answer_short, answer_length}
use Rattle.session_pres.proofs.laws.short_ones_fit.Goals as goal

pub returns : goal.returns
returns c = record { transfer = data_short; release = release_short; accept = accept_short; connect = connect_short; answer = answer_short; answer_length = answer_length }
