-- why `racing::race` answers as its contract says
use Rattle.std.proofs.Common.{sym, subst}
use Rattle.std.specs.List.{All}
use Rattle.sv_base.specs.declared.config.Config.{Config}
use Rattle.actor_scripts.specs.declared.script.Actor.{Actor}
use Rattle.actor_scripts.specs.Actors.{CanPlay}
use Rattle.script_threads.proofs.racing.race.Goals as goal

pub run-requires-clause-steps : goal.run-requires-clause-steps
run-requires-clause-steps g c κs within =
    subst (λ (config : Config). All (λ (a : Actor g.row.G.Denot). CanPlay config a.script) c.args.actors.items) (sym c.in_ok-history.ensures.history.1) c.requires.steps
