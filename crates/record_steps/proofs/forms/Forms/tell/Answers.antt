-- why `forms::Forms::tell` answers as its contract says
use Rattle.std.proofs.Common.{◌≡◌, ◌<◌, List, ℕ, length, set, get_or, sym, ap, subst, ◌∙◌, arith}
use Rattle.std.specs.Prelude.{OnOk}
use Rattle.std.proofs.lemmas.List.{length-set, get_or_default, get_or-set_same}
use Rattle.std.proofs.lemmas.List.Elements.{All-set}
use Rattle.run_record.specs.Seen.{line_seen}
use Rattle.record_steps.specs.Forms.{IsSized, Stands, form_behind}
use Rattle.record_steps.specs.Resolved.{association_of}
use Rattle.record_steps.specs.declared.form.Form.{Form}
use Rattle.record_steps.specs.declared.form.Form.TheVariants.{Shut}
use Rattle.record_steps.specs.Formed.{form_in}
use Rattle.record_steps.proofs.forms.Forms.tell.Goals as goal

-- what is lent is what the association is
at-place : (items forms : List Form) (a : ℕ) (form : Form) → items ≡ forms → a < length items → form ≡ get_or items a form → form_in forms a ≡ form
at-place items forms a form same within read = ap (λ l. form_in l a) (sym same) ∙ (get_or_default items a Shut form within ∙ sym read)

pub invariant_of-self : goal.invariant_of-self
invariant_of-self c = (
  length-set c.self.inside.forms.items c.args.a.0 c.tell.new.form ∙ c.self.invariant.0,
  All-set IsSized c.self.inside.forms.items c.args.a.0 c.tell.new.form c.tell.ensures.sized c.self.invariant.1,
)

pub tell-requires-clause-sized : goal.tell-requires-clause-sized
tell-requires-clause-sized c = subst IsSized (sym c.index_mut.ensures.value) (c.self.invariant.1 c.args.a.0 c.index_mut.result.now (omega (arith, c.self.invariant.0, c.requires.number)))

pub returns-clause-told : goal.returns-clause-told
returns-clause-told c = λ f s.
    let within : c.args.a.0 < length c.self.inside.forms.items = omega (arith, c.self.invariant.0, c.requires.number) in
    let same = at-place c.self.inside.forms.items c.args.self.now c.args.a.0 c.index_mut.result.now c.self.view_is within c.index_mut.ensures.value in
    c.tell.ensures.told f (subst (λ p. Stands p f) same s)

pub returns-clause-form : goal.returns-clause-form
returns-clause-form c = λ f s.
    let within : c.args.a.0 < length c.self.inside.forms.items = omega (arith, c.self.invariant.0, c.requires.number) in
    let same = at-place c.self.inside.forms.items c.args.self.now c.args.a.0 c.index_mut.result.now c.self.view_is within c.index_mut.ensures.value in
    let now : form_in (set c.self.inside.forms.items c.args.a.0 c.tell.new.form) c.args.a.0 ≡ c.tell.new.form = get_or-set_same c.self.inside.forms.items c.args.a.0 c.tell.new.form Shut within in
    subst (λ p. OnOk c.tell.result (Stands p (form_behind (association_of (line_seen c.args.line.now)) (line_seen c.args.line.now) f))) (sym now) (c.tell.ensures.form f (subst (λ p. Stands p f) same s))
