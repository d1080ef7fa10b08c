-- why `casting::cast_scripts` answers as its contract says
use Rattle.std.proofs.Common.{subst, sym}
use Rattle.race_settling.specs.Casting.{AreSeats}
use Rattle.race_settling.proofs.casting.cast_scripts.Goals as goal

pub cast-requires-clause-seats : goal.cast-requires-clause-seats
cast-requires-clause-seats g c κs within = subst AreSeats (sym c.in-Ok.ensures.places) c.requires.seats
