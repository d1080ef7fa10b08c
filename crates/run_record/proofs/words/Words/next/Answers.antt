-- why `words::Words::next` answers as its contract says
use Rattle.run_record.proofs.SeenLaws.{first-word, last-word}
use Rattle.run_record.proofs.words.Words.next.Goals as goal

pub returns-in-Some-clause-word : goal.returns-in-Some-clause-word
returns-in-Some-clause-word c = rw c.in_ok-text.was (first-word c.in_ok-text.text.now c.in-Some.word.now c.in-Some.more.now c.in-Some.ensures.cut.0 c.in-Some.ensures.cut.1)

pub returns-in-None-clause-word : goal.returns-in-None-clause-word
returns-in-None-clause-word c = rw c.in_ok-text.was (last-word c.in_ok-text.text.now c.in-None.ensures.cut)
