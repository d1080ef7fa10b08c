-- why `playing::Playing::do_part` answers as its contract says
use Rattle.std.proofs.Common.{◌++◌, ◌∷◌, [], refl, sym, ap, subst, ◌∙◌}
use Rattle.std.specs.Prelude.{None}
use Rattle.std.proofs.lemmas.Result.{IfOk-weaker}
use Rattle.record_steps.specs.Streams.{made}
use Rattle.record_steps.specs.declared.heard.Heard.{Heard}
use Rattle.record_session.specs.Plays.{DoesPart, IsReadyPart}
use Rattle.record_session.proofs.PlayLaws.{does-step, within-one}
use Rattle.record_session.proofs.playing.Playing.do_part.Goals as goal

pub perform-requires-clause-fits : goal.perform-requires-clause-fits
perform-requires-clause-fits c = subst (IsReadyPart c.args.self.now.bay.config) c.in-Makes.is c.requires.ready

pub returns-in_ok-extend_from_slice-in-Tells-clause-does : goal.returns-in_ok-extend_from_slice-in-Tells-clause-does
returns-in_ok-extend_from_slice-in-Tells-clause-does c =
    subst (λ p. DoesPart None c.args.self.now c.args.self.now c.args.number c.args.shape p c.args.out.now.items c.extend_from_slice.new.self.items) (sym c.in-Tells.is)
    (refl, c.in_ok-extend_from_slice-in-Tells.ensures.items ∙ ap (λ t. c.args.out.now.items ++ t) c.as_slice.ensures)

pub returns-in-Makes-clause-does : goal.returns-in-Makes-clause-does
returns-in-Makes-clause-does c = IfOk-weaker c.perform.result _ _
    (λ s h. subst (λ p. DoesPart s c.args.self.now c.perform.new.self c.args.number c.args.shape p c.args.out.now.items c.perform.new.out.items) (sym c.in-Makes.is)
    (does-step s c.args.self.now c.perform.new.self c.args.number c.args.shape c.in-Makes.actor c.in-Makes.step c.args.out.now.items c.perform.new.out.items h)) c.perform.ensures.performs

pub returns-in-Makes-clause-few : goal.returns-in-Makes-clause-few
returns-in-Makes-clause-few c = IfOk-weaker c.perform.result _ _
    (λ s h. within-one s c.perform.new.self.bay.steps c.args.self.now.bay.steps (made (c.args.part.now ∷ [])) (ap (λ (p : Heard). made (p ∷ [])) c.in-Makes.is) h) c.perform.ensures.few
