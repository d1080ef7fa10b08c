-- why `laws::records_resume` answers as its contract says
use Rattle.bay_model.specs.Named.{configured_model}
use Rattle.bay_model.proofs.Reported.{reports_are_next}
use Rattle.bay_model.proofs.Resumes.{resumes_after}
use Rattle.record_outcome.specs.Texts.{turns_in}
use Rattle.record_outcome.proofs.histories.records_resume.Goals as goal

pub returns-clause-next : goal.returns-clause-next
returns-clause-next c = λ ls r is. reports_are_next (configured_model r.config) (turns_in r.steps)

pub returns-clause-successors : goal.returns-clause-successors
returns-clause-successors c = λ ls r is. resumes_after (configured_model r.config) (turns_in r.steps)
