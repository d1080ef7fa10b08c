-- why `laws::short_pdus_fit` answers as its contract says
use Rattle.acse_apdu.proofs.ReadBackLaws.{aarq_fits, aare_fits}
use Rattle.acse_apdu.proofs.laws.short_pdus_fit.Goals as goal

pub returns : goal.returns
returns c = record { aarq = aarq_fits; aare = aare_fits }
