-- why `form::ScriptForm::in_record` answers as its contract says
use Rattle.std.proofs.Common.{refl, subst}
use Rattle.record_steps.specs.Forms.{mms}
use Rattle.script_plans.specs.Forms.{IsFit}
use Rattle.script_plans.proofs.form.ScriptForm.in_record.Goals as goal

pub returns-in-Mms-clause-sized : goal.returns-in-Mms-clause-sized
returns-in-Mms-clause-sized c = (subst IsFit c.in-Mms.is c.requires, mms c.in-Mms.size, refl)
