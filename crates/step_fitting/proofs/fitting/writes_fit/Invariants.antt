-- what the loops of `fitting::writes_fit` keep
use Rattle.std.proofs.Common.{◌≡◌, drop}
use Rattle.std.specs.List.{list_all}
use Rattle.step_fitting.specs.Fits.{write_fits}
use Rattle.step_fitting.proofs.fitting.writes_fit.Given as goal

abbrev pub invariant-loop-write : goal.invariant-loop-write
invariant-loop-write l = list_all (write_fits l.counts) (drop l.write-index l.writes) ≡ list_all (write_fits l.counts) l.writes
