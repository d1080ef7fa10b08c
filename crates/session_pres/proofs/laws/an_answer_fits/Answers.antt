-- why `laws::an_answer_fits` answers as its contract says
use Rattle.session_pres.proofs.AnswerLaws.{fits_anyone, connect_within}
use Rattle.session_pres.proofs.laws.an_answer_fits.Goals as goal

pub returns : goal.returns
returns c = record { fits = fits_anyone; within = connect_within }
