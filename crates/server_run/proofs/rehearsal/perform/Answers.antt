-- why `rehearsal::perform` answers as its contract says
use Rattle.std.proofs.Common.{map, subst, sym, ap, ◌∙◌}
use Rattle.race_records.specs.Merged.{book_seen}
use Rattle.script_reading.specs.Readings.{plan_seen}
use Rattle.race_settling.specs.Races.{IsOfPlan}
use Rattle.race_settling.proofs.SeatLaws.{plan-seats}
use Rattle.server_run.proofs.PlanLaws.{cast-plan}
use Rattle.server_run.proofs.rehearsal.perform.Goals as goal

pub cast_scripts-requires-clause-seats : goal.cast_scripts-requires-clause-seats
cast_scripts-requires-clause-seats g c κs within = plan-seats (plan_seen c.args.plan) c.requires.sound

pub play_cast-requires-clause-plan : goal.play_cast-requires-clause-plan
play_cast-requires-clause-plan g c κs within =
    let p = plan_seen c.args.plan in
    let ss = map (λ a. a.script) c.in-Ok.actors.items in
    let book = book_seen c.deref-in-Ok.result.now in
    (p, subst (λ t. IsOfPlan p c.args.plan.model t book ss) (sym c.deref.ensures.value) (cast-plan p ss book c.requires.sound c.in-Ok.ensures.actors (ap book_seen c.deref-in-Ok.ensures.value ∙ c.in-Ok.ensures.book)))

pub returns-in-Ok : goal.returns-in-Ok
returns-in-Ok g c =
    let p = plan_seen c.args.plan in
    let ss = map (λ a. a.script) c.in-Ok.actors.items in
    let book = book_seen c.deref-in-Ok.result.now in
    c.play_cast.ensures p (subst (λ t. IsOfPlan p c.args.plan.model t book ss) (sym c.deref.ensures.value) (cast-plan p ss book c.requires.sound c.in-Ok.ensures.actors (ap book_seen c.deref-in-Ok.ensures.value ∙ c.in-Ok.ensures.book)))
