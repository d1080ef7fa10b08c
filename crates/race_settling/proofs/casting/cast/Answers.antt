-- why `casting::cast` answers as its contract says
use Rattle.std.proofs.Common.{map, subst, sym}
use Rattle.race_settling.specs.Casting.{role_place, HaveGates}
use Rattle.race_settling.proofs.SeatLaws.{all-gates}
use Rattle.race_settling.proofs.casting.cast.Goals as goal

pub add_actors-added-requires-clause-gates : goal.add_actors-added-requires-clause-gates
add_actors-added-requires-clause-gates g c κs within = subst (λ gs. HaveGates gs (map role_place c.args.roles.items)) (sym c.in-Ok.ensures) (all-gates c.args.gates.items (map role_place c.args.roles.items) c.requires.gates c.requires.seats)
