-- why `playing::Playing::read` answers as its contract says
use Rattle.std.proofs.Common.{refl, sym, ap, subst, ◌∙◌, length, arith}
use Rattle.std.specs.Prelude.{Some}
use Rattle.std.proofs.lemmas.Result.{IfOk-weaker}
use Rattle.run_record.specs.Seen.{seen, line_seen}
use Rattle.run_record.proofs.ToldLaws.{line-told}
use Rattle.record_steps.specs.Telling.{most_steps}
use Rattle.record_outcome.specs.Steps.{step_at}
use Rattle.record_session.specs.Plays.{PlaysOn}
use Rattle.record_outcome.specs.declared.status.Status.TheVariants as statuses
use Rattle.record_session.proofs.PlayLaws.{line-steps, within-line, reads-told, reads-refused}
use Rattle.record_session.proofs.playing.Playing.read.Goals as goal

pub play-requires-clause-ranges : goal.play-requires-clause-ranges
play-requires-clause-ranges c = (line-told c.args.line.now (line_seen c.in-Ok.line) (sym c.view_line.ensures.told ∙ ap seen c.in-Ok.is)).ranges

pub play-requires-clause-few : goal.play-requires-clause-few
play-requires-clause-few c =
    omega (arith, c.requires.few, line-steps c.args.line.now (line_seen c.in-Ok.line) (line-told c.args.line.now (line_seen c.in-Ok.line) (sym c.view_line.ensures.told ∙ ap seen c.in-Ok.is)))

pub returns-in-Ok-clause-few : goal.returns-in-Ok-clause-few
returns-in-Ok-clause-few c =
    let most = line-steps c.args.line.now (line_seen c.in-Ok.line) (line-told c.args.line.now (line_seen c.in-Ok.line) (sym c.view_line.ensures.told ∙ ap seen c.in-Ok.is)) in
    IfOk-weaker c.play.result _ _ (λ s h. within-line s c.play.new.self.bay.steps c.args.self.now.bay.steps (most_steps (line_seen c.in-Ok.line)) (length c.args.line.now) most h) c.play.ensures.few

pub returns-in-Ok-clause-plays : goal.returns-in-Ok-clause-plays
returns-in-Ok-clause-plays c = IfOk-weaker c.play.result _ _
    (λ s h. reads-told c.args.self.now c.play.new.self c.args.number c.args.line.now c.args.out.now.items c.play.new.out.items s (line_seen c.in-Ok.line)
    (sym c.view_line.ensures.told ∙ ap seen c.in-Ok.is) h) c.play.ensures.plays

pub returns-in-Err-clause-plays : goal.returns-in-Err-clause-plays
returns-in-Err-clause-plays c =
    subst (λ n. PlaysOn (Some (statuses.Record c.args.number n)) c.args.self.now c.args.self.now (λ k p. step_at c.args.number k p c.args.line.now) c.args.out.now.items c.args.out.now.items) (sym c.number.ensures)
    (reads-refused c.args.self.now c.args.self.now c.args.number c.args.line.now c.args.out.now.items c.args.out.now.items c.in-Err.kind (sym c.view_line.ensures.told ∙ ap seen c.in-Err.is) refl)
