-- what the loops of `dealing::deal` keep
use Rattle.std.proofs.Common.{◌≡◌, ◌++◌, map}
use Rattle.std.specs.List.{All}
use Rattle.actor_scripts.specs.Actors.{AreFalling, CanPlay}
use Rattle.script_threads.specs.Dealing.{IsReady, IsRest, Dealt}
use Rattle.script_threads.proofs.dealing.deal.Given as goal

abbrev pub invariant-loop-actor : goal.invariant-loop-actor
invariant-loop-actor g l =
    IsRest l.history l.above l.pass
    × Dealt l.history l.above 33 (map (λ j. (j.pass, j.script)) l.jobs.items)
    × (map (λ j. j.script) l.jobs.items ++ map (λ a. a.script) l.actor-iterator.rest.items ≡ map (λ a. a.script) l.fn.actors.items)
    × All (λ j. IsReady l.history j.pass j.script j.replies) l.jobs.items
    × AreFalling l.above (map (λ a. a.script.actor) l.actor-iterator.rest.items)
    × All (λ a. CanPlay l.history.config a.script) l.actor-iterator.rest.items
