-- why `called::accept` answers as its contract says
use Rattle.osi_stack.proofs.FitLaws.{aare_fits}
use Rattle.osi_stack.proofs.called.accept.Goals as goal

pub write_aare-requires : goal.write_aare-requires
write_aare-requires c = rw (c.as_slice.ensures, c.in_ok-answer.ensures) (aare_fits c.args.cp.now.mms c.args.asked.now)
