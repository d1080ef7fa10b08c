-- what the loops of `fitting::sets_fit` keep
use Rattle.std.proofs.Common.{◌≡◌, drop}
use Rattle.std.specs.List.{list_all}
use Rattle.step_fitting.specs.Fits.{set_name_fits}
use Rattle.step_fitting.proofs.fitting.sets_fit.Given as goal

abbrev pub invariant-loop-set : goal.invariant-loop-set
invariant-loop-set l = list_all (set_name_fits) (drop l.set-index l.sets) ≡ list_all (set_name_fits) l.sets
