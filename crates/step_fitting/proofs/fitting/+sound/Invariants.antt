-- what the loops of `fitting::sound` keep
use Rattle.std.proofs.Common.{◌≡◌, drop}
use Rattle.sv_base.specs.Seen.{row_of}
use Rattle.step_fitting.specs.Fits.{are_sound}
use Rattle.step_fitting.proofs.fitting.+sound.Given as goal

abbrev pub invariant-are_sound-loop-value : goal.invariant-are_sound-loop-value
invariant-are_sound-loop-value l = are_sound (row_of (drop l.value-index l.values)) ≡ are_sound (row_of l.values)
