-- why `form::ScriptForm::tell` answers as its contract says
use Rattle.std.proofs.lemmas.Result.{IfOk-weaker}
use Rattle.script_plans.specs.Forms.{form_in}
use Rattle.script_plans.proofs.form.ScriptForm.tell.Goals as goal

pub returns : goal.returns
returns c = IfOk-weaker c.tell-told.result _ _ (λ told h. (c.tell-told.new.heard.items, h)) (c.tell-told.ensures.told (form_in c.args.self) c.in_record-form.ensures.form)
