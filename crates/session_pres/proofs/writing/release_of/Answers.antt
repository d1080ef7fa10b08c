-- why `writing::release_of` answers as its contract says
use Rattle.session_pres.specs.declared.codes.TheConstants.{USER_DATA}
use Rattle.session_pres.proofs.WritingLaws.{release_fits, field_fits}
use Rattle.session_pres.proofs.writing.release_of.Goals as goal

pub with_user_data-requires : goal.with_user_data-requires
with_user_data-requires c = release_fits c.args.context c.args.apdu.now c.requires

pub with_field-requires : goal.with_field-requires
with_field-requires c = rw (c.deref.ensures.value, c.in_ok-user.ensures) (field_fits USER_DATA _ c.requires)
