-- why `race::race_over` answers as its contract says
use denote.Exit.{no}
use denote.Param.Send.{arg_send, param_send}
use Rattle.std.proofs.Common.{subst, sym}
use Rattle.std.specs.List.{All}
use Rattle.actor_scripts.specs.Actors.{CanPlay}
use Rattle.actor_scripts.specs.declared.script.Actor.{Actor}
use Rattle.bay_core.proofs.SendLaws.{bay_send}
use Rattle.bay_races.proofs.race.race_over.Goals as goal

pub race-requires-send-M : goal.race-requires-send-M
race-requires-send-M g c κs within = param_send _ _ (arg_send _ no _ bay_send)

pub race-requires-clause-steps : goal.race-requires-clause-steps
race-requires-clause-steps g c κs within = subst (λ k. All (λ (a : Actor _). CanPlay k a.script) c.args.actors.items) (sym c.in-Ok.ensures.0) c.requires.steps
