-- why `control_pdus::add_oper_variable` answers as its contract says
use Rattle.std.proofs.Common.{◌≡◌, ap₂, subst, ◌++◌, ◌∙◌}
use Rattle.std.specs.Prelude.{OnOk}
use Rattle.mms_pdu.specs.AskingOctets.{domain_name}
use Rattle.bay_answers.specs.RepliesVariables.{variable_octets}
use Rattle.bay_answers.proofs.control_pdus.add_oper_variable.Goals as goal

pub returns : goal.returns
returns c =
    subst (λ x. OnOk c.add_variable.result (c.add_variable.new.out.items ≡ c.args.out.now.items ++ variable_octets x))
    (c.as_slice-3.ensures.value ∙ (c.in_ok-name.ensures ∙ ap₂ domain_name c.as_slice.ensures (c.as_slice-2.ensures.value ∙ c.in_ok-item.ensures))) c.add_variable.ensures
