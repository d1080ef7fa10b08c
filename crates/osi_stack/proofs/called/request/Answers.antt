-- why `called::request` answers as its contract says
use Rattle.session_pres.specs.Plain.{asked_of}
use Rattle.osi_stack.proofs.FitLaws.{can_accept}
use Rattle.osi_stack.proofs.called.request.Goals as goal

pub accept-requires-clause-fits : goal.accept-requires-clause-fits
accept-requires-clause-fits c = can_accept c.args.user.now (asked_of c.in_ok-cp.cp) c.in_ok-asked.asked c.in_ok-cp.ensures.plain c.requires.few
