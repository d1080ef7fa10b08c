-- why `called::release` answers as its contract says
use Rattle.osi_stack.proofs.FitLaws.{release_fits}
use Rattle.osi_stack.proofs.called.release.Goals as goal

pub write_dn-requires : goal.write_dn-requires
write_dn-requires c = rw c.write_rlre.ensures (release_fits _ 99)
