-- why `rehearsal::play_cast` answers as its contract says
use Rattle.std.proofs.Common.{map, subst, sym}
use Rattle.race_records.specs.Merged.{book_seen}
use Rattle.actor_scripts.specs.Actors.{AreFalling, CanPlay}
use Rattle.actor_scripts.specs.declared.script.Script.{Script}
use Rattle.race_settling.specs.Races.{IsOfRace}
use Rattle.race_settling.proofs.CastLaws.{numbers-of, of-scripts}
use Rattle.server_run.proofs.PlanLaws.{served-plan}
use Rattle.server_run.proofs.rehearsal.play_cast.Goals as goal

pub race_over-requires-clause-model : goal.race_over-requires-clause-model
race_over-requires-clause-model g c κs within = served-plan c.requires.plan.0 c.args.model.now c.args.text.now (book_seen c.args.book.now) (map (λ a. a.script) c.args.actors.items) c.requires.plan.1

pub race_over-requires-clause-numbers : goal.race_over-requires-clause-numbers
race_over-requires-clause-numbers g c κs within = subst (AreFalling 33) (numbers-of c.args.actors.items) c.requires.plan.1.falls

pub race_over-requires-clause-steps : goal.race_over-requires-clause-steps
race_over-requires-clause-steps g c κs within = of-scripts (λ (s : Script). CanPlay c.args.model.now s) c.args.actors.items c.requires.plan.1.plays

pub settle-requires : goal.settle-requires
settle-requires g c =
    let is = c.requires.plan.1 in
    let ss = map (λ a. a.script) c.args.actors.items in
    record { plan = (c.requires.plan.0, ss, is, subst (λ k. IsOfRace k ss c.in_ok-raced.raced) (sym is.config) c.in_ok-raced.ensures) }

pub returns : goal.returns
returns g c = λ p is. c.settle.ensures p (map (λ a. a.script) c.args.actors.items) is (subst (λ k. IsOfRace k (map (λ a. a.script) c.args.actors.items) c.in_ok-raced.raced) (sym is.config) c.in_ok-raced.ensures)
