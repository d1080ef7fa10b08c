-- why `telling::tell` answers as its contract says
use Rattle.std.proofs.Common.{◌∙◌, ap, rules, subst, sym}
use Rattle.run_record.specs.Seen.{line_seen}
use Rattle.run_record.specs.declared.view.LineView.{LineView}
use Rattle.record_steps.specs.Forms.{Stands}
use Rattle.record_steps.specs.Resolved.{told_of}
use Rattle.record_steps.specs.Telling.{IsPlain}
use Rattle.record_steps.proofs.TellLaws.{fed-told, tells-plainly}
use Rattle.record_steps.proofs.telling.tell.Goals as goal

pub returns-in_ok-after-in-Piece-clause-told : goal.returns-in_ok-after-in-Piece-clause-told
returns-in_ok-after-in-Piece-clause-told c f s =
    let was = subst (λ p. Stands p f) (sym c.replace-was.ensures.value) s in
    c.in_ok-after-in-Piece.ensures.told f c.args.step.now was
    ∙ (sym (fed-told c.args.model.now f c.in-Piece.a c.in-Piece.hex.now) ∙ ap (λ (line : LineView). told_of c.args.model.now f (line_seen line)) (sym c.in-Piece.is))

pub returns-in_ok-told-in-Skip-clause-told : goal.returns-in_ok-told-in-Skip-clause-told
returns-in_ok-told-in-Skip-clause-told c f s =
    let is_plain : IsPlain (line_seen c.args.line.now) = search rules in
    tells-plainly c.args.model.now c.args.form.now f (line_seen c.args.line.now) c.in_ok-told-in-Skip.told c.say.new.step c.args.heard.now.items is_plain s c.requires.none c.in_ok-told-in-Skip.ensures.told
