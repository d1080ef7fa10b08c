-- why `control_pdus::bad_end` answers as its contract says
use Rattle.std.proofs.Common.{ap, sym, subst, ◌^◌, ◌<◌, ◌++◌, ◌∙◌, length, arith, length-append}
use Rattle.bay_answers.specs.ControlPdus.{error_variable, oper_variable}
use Rattle.bay_answers.proofs.ControlPduLaws.{error-variable-short, oper-variable-short}
use Rattle.bay_answers.proofs.control_pdus.bad_end.Goals as goal

pub reported-requires : goal.reported-requires
reported-requires c =
    subst (λ v. length v < 2 ^ 32) (sym (c.as_slice.ensures.value
    ∙ (c.in_ok-add_oper_variable.ensures
    ∙ ap (λ l. l ++ oper_variable c.args.control.now) (c.in_ok-add_error_variable.ensures ∙ ap (λ l. l ++ error_variable) c.new-variables.ensures.items))))
    (omega (arith, length-append error_variable (oper_variable c.args.control.now), error-variable-short, oper-variable-short c.args.control.now c.requires.name))
