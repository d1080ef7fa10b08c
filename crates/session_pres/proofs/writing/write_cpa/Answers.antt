-- why `writing::write_cpa` answers as its contract says
use Rattle.session_pres.proofs.WritingLaws.{cpa_fits}
use Rattle.session_pres.proofs.writing.write_cpa.Goals as goal

pub put-requires-clause-len : goal.put-requires-clause-len
put-requires-clause-len c = rw (c.deref.ensures.value, c.in_ok-put_results.ensures, c.new-results.ensures.items) (cpa_fits _ _ _ c.requires).0

pub put_user_data-requires : goal.put_user_data-requires
put_user_data-requires c = (cpa_fits _ _ _ c.requires).1
