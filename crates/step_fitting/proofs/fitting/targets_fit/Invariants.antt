-- what the loops of `fitting::targets_fit` keep
use Rattle.std.proofs.Common.{◌≡◌, drop}
use Rattle.std.specs.List.{list_all}
use Rattle.step_fitting.specs.Fits.{target_fits}
use Rattle.step_fitting.proofs.fitting.targets_fit.Given as goal

abbrev pub invariant-loop-target : goal.invariant-loop-target
invariant-loop-target l = list_all (target_fits l.counts) (drop l.target-index l.targets) ≡ list_all (target_fits l.counts) l.targets
