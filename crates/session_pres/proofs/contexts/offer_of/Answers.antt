-- why `contexts::offer_of` answers as its contract says
use Rattle.std.proofs.Common.{List, Option, sym, ap, ◌∙◌, arith, refl}
use Rattle.std.specs.Option.{option_map}
use Rattle.session_pres.specs.ContextList.{Context}
use Rattle.session_pres.specs.ContextReading.{offered}
use Rattle.session_pres.proofs.ContextLaws.{ListGoes-more, ListGoes-refused, ListGoes-all, ListGoes-room, ListGoes-same, elements_few, list_none, list_at}
use Rattle.session_pres.proofs.contexts.offer_of.Goals as goal

pub returns-in_err-elements : goal.returns-in_err-elements
returns-in_err-elements c = rw (c.from_residual.ensures, list_none _ (sym c.in_err-elements.ensures)) refl

pub returns-in_err-definition : goal.returns-in_err-definition
returns-in_err-definition c =
    rw (c.from_residual-in_err-definition.ensures, list_at _ _ (sym c.in_ok-elements.ensures), ListGoes-refused _ _ _ _ _ c.loop-element.invariant c.in-Some.ensures.steps (sym c.in_err-definition.ensures)) refl

pub overflow_add-count : goal.overflow_add-count
overflow_add-count c = omega (arith, ListGoes-room _ _ _ _ _ c.loop-element.invariant c.in-Some.ensures.steps, elements_few _ _ (sym c.in_ok-elements.ensures))

pub loop-element-preserved : goal.loop-element-preserved
loop-element-preserved c =
    ListGoes-same _ _ _ _ _ (ListGoes-more _ _ _ _ _ _ c.loop-element.invariant c.in-Some.ensures.steps (sym c.in_ok-definition.ensures)) c.earlier-acse.ensures c.earlier-mms.ensures

pub returns : goal.returns
returns c = sym (ap (λ (r : Option (List Context)). option_map offered r) (list_at _ _ (sym c.in_ok-elements.ensures)) ∙ ListGoes-all _ _ _ c.loop-element.invariant c.in_default.ensures.steps.0)
