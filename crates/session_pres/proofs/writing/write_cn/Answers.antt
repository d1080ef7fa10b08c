-- why `writing::write_cn` answers as its contract says
use Rattle.session_pres.proofs.WritingLaws.{connect_fits}
use Rattle.session_pres.proofs.writing.write_cn.Goals as goal

pub with_user_data-requires : goal.with_user_data-requires
with_user_data-requires c = (connect_fits c.args.aarq.now c.requires).2

pub ppdu_of-requires : goal.ppdu_of-requires
ppdu_of-requires c = rw (c.deref.ensures.value, c.in_ok-parameters.ensures) (connect_fits c.args.aarq.now c.requires).1

pub with_field-requires : goal.with_field-requires
with_field-requires c = rw (c.deref-2.ensures.value, c.in_ok-cp.ensures, c.deref.ensures.value, c.in_ok-parameters.ensures) (connect_fits c.args.aarq.now c.requires).0

pub with_field-requires-2 : goal.with_field-requires-2
with_field-requires-2 c = rw (c.deref-3.ensures.value, c.in_ok-parameters-2.ensures, c.deref-2.ensures.value, c.in_ok-cp.ensures, c.deref.ensures.value, c.in_ok-parameters.ensures) (connect_fits c.args.aarq.now c.requires).3
