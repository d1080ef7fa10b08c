-- why `replay::end` answers as its contract says
use Rattle.record_outcome.proofs.StatusLaws.{judged_replay, judged_read, judged_write}
use Rattle.record_session.proofs.replay.end.Goals as goal

pub returns-in-Ok-clause-status : goal.returns-in-Ok-clause-status
returns-in-Ok-clause-status c = λ j. c.in-Ok.ensures.status

pub returns-in-Ok-clause-listed : goal.returns-in-Ok-clause-listed
returns-in-Ok-clause-listed c = judged_replay c.in-Ok.status c.in-Ok.ensures.judged

pub returns-in-Ok-clause-read : goal.returns-in-Ok-clause-read
returns-in-Ok-clause-read c = judged_read c.in-Ok.status c.in-Ok.ensures.judged

pub returns-in-Ok-clause-write : goal.returns-in-Ok-clause-write
returns-in-Ok-clause-write c = judged_write c.in-Ok.status c.in-Ok.ensures.judged

pub returns-in-Err-clause-status : goal.returns-in-Err-clause-status
returns-in-Err-clause-status c = λ j. absurd j
