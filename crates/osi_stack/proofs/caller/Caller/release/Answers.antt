-- why `caller::Caller::release` answers as its contract says
use Rattle.osi_stack.proofs.FitLaws.{release_fits}
use Rattle.osi_stack.proofs.caller.Caller.release.Goals as goal

pub write_fn-requires : goal.write_fn-requires
write_fn-requires c = rw c.write_rlrq.ensures (release_fits 1 98)
