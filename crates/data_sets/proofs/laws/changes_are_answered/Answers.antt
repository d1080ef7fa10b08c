-- why `laws::changes_are_answered` answers as its contract says
use Rattle.std.proofs.Common.{refl}
use Rattle.bay_model.specs.Sets.{sets, dynamic}
use Rattle.data_sets.proofs.DeleteLaws.{errors, goes, book_deletes}
use Rattle.data_sets.proofs.laws.changes_are_answered.Goals as goal

pub returns-clause-errors : goal.returns-clause-errors
returns-clause-errors c = λ b c' past rows name ts h are. errors b c' past rows name ts h are

pub returns-clause-gone : goal.returns-clause-gone
returns-clause-gone c = λ b c' ns past h. (goes c' past ns b (sets c' past) (dynamic past) h refl).gone

pub returns-clause-matched : goal.returns-clause-matched
returns-clause-matched c = λ b c' ns past h. (goes c' past ns b (sets c' past) (dynamic past) h refl).matched

pub returns-clause-deletes : goal.returns-clause-deletes
returns-clause-deletes c = λ b c' a n m o ns before h. book_deletes b c' a n m o ns before h
