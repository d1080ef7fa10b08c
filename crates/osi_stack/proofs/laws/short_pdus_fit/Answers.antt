-- why `laws::short_pdus_fit` answers as its contract says
use Rattle.osi_stack.proofs.FitLaws.{pdv_fits}
use Rattle.osi_stack.proofs.laws.short_pdus_fit.Goals as goal

pub returns : goal.returns
returns c = pdv_fits
