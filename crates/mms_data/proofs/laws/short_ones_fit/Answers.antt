-- why `laws::short_ones_fit` answers as its contract says
use Rattle.sv_base.specs.Seen.{seen_of}
use Rattle.sv_base.specs.Fields.{shape_of}
use Rattle.mms_data.proofs.FitLaws.{seen_fits, shape_fits}
use Rattle.mms_data.proofs.laws.short_ones_fit.Goals as goal

pub returns : goal.returns
returns c = record { values = λ v lt f. seen_fits (seen_of v) lt f; types = λ t lt. shape_fits (shape_of t) lt }
