-- why `replies_laws::responses_are_read_back` answers as its contract says
use Rattle.bay_answers.proofs.RepliesToldLaws.{read_back, specified_back, written_back}
use Rattle.bay_answers.proofs.RepliesAskedLaws.{variables_told, set_told}
use Rattle.bay_answers.proofs.replies_laws.responses_are_read_back.Goals as goal

pub returns-clause-read : goal.returns-clause-read
returns-clause-read c = λ invoke results short all. read_back invoke results short.0 all short.1

pub returns-clause-specified : goal.returns-clause-specified
returns-clause-specified c = λ invoke what access results short a all. specified_back invoke what access results short.0 a all short.1

pub returns-clause-variables : goal.returns-clause-variables
returns-clause-variables c = variables_told

pub returns-clause-set : goal.returns-clause-set
returns-clause-set c = set_told

pub returns-clause-written : goal.returns-clause-written
returns-clause-written c = λ invoke codes short all. written_back invoke codes short.0 all short.1
