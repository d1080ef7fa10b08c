-- what the loops of `casting::add_actors` keep, and why they end
use Rattle.std.proofs.Common.{◌≡◌, ◌≤◌, ◌++◌, length, map}
use Rattle.race_settling.specs.Casting.{cast_from, role_place, AreSeats, HaveGates}
use Rattle.race_settling.proofs.casting.add_actors.Given as goal

abbrev pub invariant-loop-role : goal.invariant-loop-role
invariant-loop-role g l =
    (length l.roles.items ≤ 33) × (map (λ a. a.script) l.actors.items ++ cast_from 0 l.roles.items ≡ cast_from 0 l.fn.roles.items) × AreSeats (map role_place l.roles.items) × HaveGates l.gates.items (map role_place l.roles.items)

abbrev pub decreases-loop-role : goal.decreases-loop-role
decreases-loop-role g l = length l.roles.items
