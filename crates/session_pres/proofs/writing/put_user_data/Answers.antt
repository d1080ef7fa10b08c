-- why `writing::put_user_data` answers as its contract says
use Rattle.std.proofs.Common.{◌<◌, ◌^◌, ℕ, sym, ap, ◌∙◌, subst}
use Rattle.ber_write.specs.Minimal.{element_size}
use Rattle.session_pres.proofs.WritingLaws.{user_written, pdv_list-length, value_fits}
use Rattle.session_pres.proofs.writing.put_user_data.Goals as goal

pub element_len-requires : goal.element_len-requires
element_len-requires c = subst (λ (n : ℕ). n < 2 ^ 32) (pdv_list-length c.args.context c.args.value.now ∙ sym (ap element_size c.pdv_len-len.ensures)) c.requires

pub put-requires-clause-len : goal.put-requires-clause-len
put-requires-clause-len c = value_fits c.args.context c.args.value.now c.requires

pub returns : goal.returns
returns c = user_written c.put.result _ _ _ _ _ _ _ _ _ _ c.in_ok-put_head.ensures.ok c.in_ok-put_head-2.ensures.ok c.in_ok-put_uint.ensures.ok c.from.ensures c.pdv_len-len.ensures c.element_len.ensures c.put.ensures.ok
