-- why `control_pdus::error_pdu` answers as its contract says
use Rattle.std.proofs.Common.{ap, sym, subst, ◌^◌, ◌<◌, ◌++◌, ◌∙◌, length, arith}
use Rattle.bay_answers.specs.ControlPdus.{error_variable}
use Rattle.bay_answers.proofs.ControlPduLaws.{error-variable-short}
use Rattle.bay_answers.proofs.control_pdus.error_pdu.Goals as goal

pub reported-requires : goal.reported-requires
reported-requires c =
    subst (λ v. length v < 2 ^ 32) (sym (c.as_slice.ensures.value ∙ (c.in_ok-add_error_variable.ensures ∙ ap (λ l. l ++ error_variable) c.new-variables.ensures.items)))
    (omega (arith, error-variable-short))
