-- why `initiate_writing::write_initiate_answer` answers as its contract says
use Rattle.std.proofs.Common.{◌≡◌, IfOk, subst}
use Rattle.ber_write.specs.Minimal.{octets_of}
use Rattle.mms_initiate.specs.declared.initiate.Initiate.{Initiate}
use Rattle.mms_initiate.specs.InitiateOctets.{answer_details, initiate_content, initiate_answer}
use Rattle.mms_initiate.proofs.initiate_writing.write_initiate_answer.Goals as goal

pub returns : goal.returns
unfolding initiate_answer
returns c = subst (λ (n : Initiate). IfOk c.write_initiate.result (λ o. o ≡ octets_of 169 (initiate_content n answer_details))) c.accepted_of.ensures c.write_initiate.ensures
