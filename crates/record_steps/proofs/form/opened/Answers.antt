-- why `form::opened` answers as its contract says
use Rattle.std.proofs.Common.{[], refl, subst}
use Rattle.run_record.specs.Grammar.{IsForm}
use Rattle.run_record.specs.declared.line.OpenForm.{OpenForm}
use Rattle.record_steps.specs.Forms.{mms, dialling}
use Rattle.record_steps.proofs.form.opened.Goals as goal

pub returns-in-Mms-clause-sized : goal.returns-in-Mms-clause-sized
returns-in-Mms-clause-sized c = (subst (λ (o : OpenForm). IsForm o) c.in-Mms.is c.requires, mms c.in-Mms.size, refl)

pub returns-in-Wire-clause-sized : goal.returns-in-Wire-clause-sized
returns-in-Wire-clause-sized c = (tt, dialling [], ([], c.new.ensures))
