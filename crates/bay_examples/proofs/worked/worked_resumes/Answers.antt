-- why `worked::worked_resumes` answers as its contract says
use Rattle.bay_examples.proofs.WorkedResumes.{resume_at_newest, resume_below_front, refused_entry_ids, loss_and_resume, enabled_twice}
use Rattle.bay_examples.proofs.worked.worked_resumes.Goals as goal

pub returns-clause-resume_at_newest : goal.returns-clause-resume_at_newest
returns-clause-resume_at_newest c = resume_at_newest

pub returns-clause-resume_below_front : goal.returns-clause-resume_below_front
returns-clause-resume_below_front c = resume_below_front

pub returns-clause-refused_entry_ids : goal.returns-clause-refused_entry_ids
returns-clause-refused_entry_ids c = refused_entry_ids

pub returns-clause-loss_and_resume : goal.returns-clause-loss_and_resume
returns-clause-loss_and_resume c = loss_and_resume

pub returns-clause-enabled_twice : goal.returns-clause-enabled_twice
returns-clause-enabled_twice c = enabled_twice
