-- why `results::each_answer_says_one_result` holds
use Rattle.mms_pdu.proofs.ResultLaws.{one_reading, one_writing}
use Rattle.mms_pdu.proofs.results.each_answer_says_one_result.Goals as goal

pub returns-clause-read : goal.returns-clause-read
returns-clause-read c = one_reading

pub returns-clause-written : goal.returns-clause-written
returns-clause-written c = λ body q r fits a b. one_writing body q r a b
