-- why `forms::Forms::shape` answers as its contract says
use Rattle.std.proofs.Common.{◌<◌, length, ap, subst, ◌∙◌, arith}
use Rattle.std.proofs.lemmas.List.{get_or_default}
use Rattle.record_steps.specs.Forms.{IsSized, plain, shape_of}
use Rattle.record_steps.specs.declared.form.Form.TheVariants.{Shut}
use Rattle.record_steps.specs.Formed.{form_in}
use Rattle.record_steps.proofs.forms.Forms.shape.Goals as goal

pub returns-clause-shape : goal.returns-clause-shape
returns-clause-shape c =
    let within : c.args.a.0 < length c.self.inside.forms.items = omega (arith, c.self.invariant.0, c.requires) in
    c.shape.ensures
    ∙ ap (λ f. shape_of (plain f)) (c.index.ensures ∙ (get_or_default c.self.inside.forms.items c.args.a.0 c.index.result.now Shut within ∙ ap (λ l. form_in l c.args.a.0) c.self.view_is))

pub returns-clause-sized : goal.returns-clause-sized
returns-clause-sized c = subst (λ l. IsSized (form_in l c.args.a.0)) c.self.view_is (c.self.invariant.1 c.args.a.0 Shut (omega (arith, c.self.invariant.0, c.requires)))
