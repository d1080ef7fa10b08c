-- why `replies_variables::asked_set` answers as its contract says
use Rattle.std.proofs.Common.{◌≡◌, ℕ, List, IfOk, ap₂, subst, ◌∙◌}
use Rattle.ber_write.specs.Minimal.{octets_of}
use Rattle.mms_pdu.specs.AskingOctets.{domain_name}
use Rattle.bay_answers.proofs.replies_variables.asked_set.Goals as goal

pub returns : goal.returns
returns c =
    subst (λ (o : List ℕ). IfOk c.specification.result (λ v. v.items ≡ octets_of 0xa0 (octets_of 0xa1 o)))
    (c.as_slice-3.ensures.value ∙ (c.in_ok-name.ensures ∙ ap₂ domain_name c.as_slice.ensures c.as_slice-2.ensures))
    c.specification.ensures
