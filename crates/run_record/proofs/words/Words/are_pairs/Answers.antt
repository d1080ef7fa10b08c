-- why `words::Words::are_pairs` answers as its contract says
use Rattle.run_record.proofs.SeenLaws.{pairs-counted}
use Rattle.run_record.proofs.words.Words.are_pairs.Goals as goal

pub returns-in-Some : goal.returns-in-Some
returns-in-Some c = rw c.in-Some.is (pairs-counted c.in-Some.text.now c.are_odd.result c.are_odd.ensures)
