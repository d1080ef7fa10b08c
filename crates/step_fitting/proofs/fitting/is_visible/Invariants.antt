-- what the loops of `fitting::is_visible` keep
use Rattle.std.proofs.Common.{◌≡◌, drop}
use Rattle.step_fitting.specs.Fits.{is_visible}
use Rattle.step_fitting.proofs.fitting.is_visible.Given as goal

abbrev pub invariant-loop-octet : goal.invariant-loop-octet
invariant-loop-octet l = is_visible (drop l.octet-index l.octets) ≡ is_visible l.octets
