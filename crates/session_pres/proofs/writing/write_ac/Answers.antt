-- why `writing::write_ac` answers as its contract says
use Rattle.session_pres.proofs.WritingLaws.{accept_fits}
use Rattle.session_pres.proofs.writing.write_ac.Goals as goal

pub with_field-requires : goal.with_field-requires
with_field-requires c = accept_fits c.args.cpa.now c.requires
