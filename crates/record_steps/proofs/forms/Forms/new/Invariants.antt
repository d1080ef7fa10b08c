-- what the loops of `forms::Forms::new` keep
use Rattle.std.proofs.Common.{◌≡◌, replicate}
use Rattle.record_steps.specs.declared.form.Form.TheVariants.{Shut}
use Rattle.record_steps.proofs.forms.Forms.new.Given as goal

abbrev pub invariant-loop : goal.invariant-loop
invariant-loop l = l.forms.items ≡ replicate l.counter Shut
