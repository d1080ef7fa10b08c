-- why `control_pdus::good_end` answers as its contract says
use Rattle.std.proofs.Common.{ap, sym, subst, ◌^◌, ◌<◌, ◌++◌, ◌∙◌, length, arith}
use Rattle.bay_answers.specs.ControlPdus.{oper_variable}
use Rattle.bay_answers.proofs.ControlPduLaws.{oper-variable-short}
use Rattle.bay_answers.proofs.control_pdus.good_end.Goals as goal

pub reported-requires : goal.reported-requires
reported-requires c =
    subst (λ v. length v < 2 ^ 32) (sym (c.as_slice.ensures.value ∙ (c.in_ok-add_oper_variable.ensures ∙ ap (λ l. l ++ oper_variable c.args.control.now) c.new-variables.ensures.items)))
    (omega (arith, oper-variable-short c.args.control.now c.requires.name))
