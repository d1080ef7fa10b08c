-- why `casting::add_actors` answers as its contract says
use Rattle.std.proofs.Common.{◌≡◌, ◌++◌, ◌∷◌, [], map, length, length-append, arith, ap}
use Rattle.race_settling.proofs.CastLaws.{cast-more}
use Rattle.race_settling.proofs.SeatLaws.{one-cast, last-gate}
use Rattle.race_settling.proofs.casting.add_actors.Goals as goal

pub add_actor-requires-clause-gates : goal.add_actor-requires-clause-gates
add_actor-requires-clause-gates g c κs within = last-gate c.loop-role.gates.items c.loop-role.roles.items c.pop.new.self.items c.in-Some.role c.in-Some.ensures.items c.loop-role.invariant.3

pub loop-role-preserved : goal.loop-role-preserved
loop-role-preserved g c =
    let i = c.loop-role.invariant in
    let popped : c.loop-role.roles.items ≡ c.pop.new.self.items ++ c.in-Some.role ∷ [] = c.in-Some.ensures.items in
    let number : c.len.result ≡ length c.pop.new.self.items = omega (arith, c.len.ensures, c.pop.new.self.ok.0) in
    let shorter : length c.loop-role.roles.items ≡ length (c.pop.new.self.items ++ c.in-Some.role ∷ []) = ap length popped in
    let seats = one-cast c.loop-role.gates.items c.add_actor.new.gates.items c.loop-role.roles.items c.pop.new.self.items c.in-Some.role popped i.2 i.3 c.in_ok-add_actor.ensures.gates in (
      omega (arith, i.0, shorter, length-append c.pop.new.self.items (c.in-Some.role ∷ [])),
      cast-more (map (λ a. a.script) c.loop-role.actors.items) (map (λ a. a.script) c.add_actor.new.actors.items) c.loop-role.roles.items c.pop.new.self.items c.in-Some.role c.len.result _ popped number i.1 c.in_ok-add_actor.ensures.actors,
      seats.0,
      seats.1,
    )
