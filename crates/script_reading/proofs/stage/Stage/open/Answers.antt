-- why `stage::Stage::open` answers as its contract says
use Rattle.std.proofs.Common.{sym, ap, subst, ◌∙◌}
use Rattle.text_words.specs.Words.{texts}
use Rattle.script_plans.specs.Openings.{headed}
use Rattle.script_plans.specs.Moves.{goes, stops, configuring}
use Rattle.script_reading.specs.Readings.{place_of, Heads}
use Rattle.record_outcome.specs.declared.status.Status.TheVariants as statuses
use Rattle.script_reading.proofs.StageLaws.{open-long, open-skipped, open-headed}
use Rattle.script_reading.proofs.stage.Stage.open.Goals as goal

pub returns-then-is_long-clause-moves : goal.returns-then-is_long-clause-moves
returns-then-is_long-clause-moves c = open-long c.args.number c.args.line.now c.number.result (sym c.is_long.ensures ∙ c.if-is_long.true) c.number.ensures

pub returns-then-is_skipped-clause-moves : goal.returns-then-is_skipped-clause-moves
returns-then-is_skipped-clause-moves c =
    open-skipped c.args.number c.args.line.now (place_of c.args.self.now) (sym c.is_long.ensures ∙ c.if-is_long.false) (sym c.is_skipped.ensures ∙ c.if-is_skipped.true) (ap place_of c.requires.stage)

pub returns-in-Some-clause-moves : goal.returns-in-Some-clause-moves
returns-in-Some-clause-moves c =
    let heads = subst (λ o. Heads o c.args.number (headed c.args.number (texts c.deref.result.now))) c.in-Some.is (c.heading_fault.ensures c.args.number) in
    open-headed c.args.number c.args.line.now (texts c.deref.result.now) _ (sym c.is_long.ensures ∙ c.if-is_long.false) (sym c.is_skipped.ensures ∙ c.if-is_skipped.false)
    (ap texts c.deref.ensures ∙ c.in_ok-words.ensures) (heads ∙ ap (λ k. stops (statuses.Record c.args.number k)) (sym c.number-in-Some.ensures))

pub returns-clause-moves : goal.returns-clause-moves
returns-clause-moves c =
    let heads = subst (λ o. Heads o c.args.number (headed c.args.number (texts c.deref.result.now))) c.in_default.is (c.heading_fault.ensures c.args.number) in
    open-headed c.args.number c.args.line.now (texts c.deref.result.now) _ (sym c.is_long.ensures ∙ c.if-is_long.false) (sym c.is_skipped.ensures ∙ c.if-is_skipped.false)
    (ap texts c.deref.ensures ∙ c.in_ok-words.ensures) (heads ∙ (ap (λ t. goes (configuring c.args.number t)) (sym c.new.ensures.items) ∙ ap (λ s. goes (place_of s)) (sym c.enter.ensures)))
