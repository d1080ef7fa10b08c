-- why `bay::Bay::write` answers as its contract says
use Rattle.std.proofs.Common.{◌<◌, ◌∙◌, length, suc, refl, ap, sym, subst, arith}
use Rattle.bay_model.specs.declared.answer.Answer.TheVariants as answers
use Rattle.bay_model.specs.Answers.{points}
use Rattle.bay_model.specs.Named.{configured_model}
use Rattle.bay_model.specs.Points.{Past}
use Rattle.bay_core.specs.Put.{IsOpenAt, general_at}
use Rattle.bay_core.specs.Standing.{StandsFor}
use Rattle.bay_core.specs.State.{State}
use Rattle.bay_core.specs.Written.{named_by}
use Rattle.bay_core.proofs.ArriveLaws.{arrived-count}
use Rattle.bay_core.proofs.EndLaws.{opened-by, opener-told, opener-fault}
use Rattle.bay_core.proofs.WriteLaws.{wrote-for}
use Rattle.bay_core.proofs.bay.Bay.write.Goals as goal
use Rattle.list_laws.proofs.Places.{equal-number, get-within}

pub write_at_arrival-answer-requires-clause-is_open : goal.write_at_arrival-answer-requires-clause-is_open
write_at_arrival-answer-requires-clause-is_open c =
    let is = opened-by c.self.inside.associations.rows c.args.a.0 c.in-Some.opener (sym c.opener.ensures ∙ c.in-Some.is) in
    subst (λ (t : State). IsOpenAt t c.args.a.0) (sym c.arrive.ensures.state) (subst (λ (t : State). IsOpenAt t c.args.a.0) c.self.view_is is)

pub write_at_arrival-answer-requires-clause-there : goal.write_at_arrival-answer-requires-clause-there
write_at_arrival-answer-requires-clause-there c = omega (
  arith,
  ap (λ (s : State). length s.parts) c.arrive.ensures.state,
  arrived-count c.args.self.now c.args.moment,
  ap (λ (s : State). length s.parts) c.self.view_is,
  c.self.invariant.furnished.count,
  subst (λ (s : State). c.args.b.0 < length s.config.blocks) (sym c.self.view_is) c.requires.block,
)

pub returns-clause-does : goal.returns-clause-does
returns-clause-does c = λ c' h was.
    let st = subst (λ s. StandsFor s c' h) (sym c.self.view_is) was in
    let past : Past = points (configured_model c') h in
    let b = c.args.b.0 in
    let v = c.args.value.now in
    let z = c.arrive.new.self in
    let here = c.arrive.ensures.stands c' (length h) past was.1 in
    let below : b < length z.parts = omega (
      arith,
      ap (λ (s : State). length s.parts) c.arrive.ensures.state,
      arrived-count c.args.self.now c.args.moment,
      ap (λ (s : State). length s.parts) c.self.view_is,
      c.self.invariant.furnished.count,
      subst (λ (s : State). b < length s.config.blocks) (sym c.self.view_is) c.requires.block,
    ) in
    let part = get-within z.parts b below in
    let open_ = opener-told (configured_model c') c.self.inside.associations.rows past c.args.a.0 c.in-Some.opener st.1.associations c.requires.number (sym c.opener.ensures ∙ c.in-Some.is) in
    let none = opener-fault past c.args.actor.0 c.args.a.0 open_.0 open_.1 (equal-number c.args.actor.0 open_.0.opener (c.if-actor-opener.false ∙ sym open_.2)) in
    let there = subst (λ (t : State). IsOpenAt t c.args.a.0) (sym c.arrive.ensures.state) (subst (λ (t : State). IsOpenAt t c.args.a.0) c.self.view_is
    (opened-by c.self.inside.associations.rows c.args.a.0 c.in-Some.opener (sym c.opener.ensures ∙ c.in-Some.is))) in
    let wrote = wrote-for c.args.self.now z c.count.new.self c' h c.args.moment c.args.actor.0 c.args.b c.args.a c.args.comp v (named_by c.args.comp v z.book) (general_at part.0 z) part.0
    c.requires.number there refl part.1 (c.write_at_arrival-answer.ensures.general part.0 part.1 c' (length h) c.args.moment past here) here was none
    (c.count.ensures ∙ ap (λ (s : State). record s { steps = suc s.steps }) (c.write_at_arrival-answer.ensures.written part.0 part.1)) in
    (ap answers.Wrote (c.write_at_arrival-answer.ensures.answer part.0 part.1) ∙ wrote.0, wrote.1)

pub returns-clause-counted : goal.returns-clause-counted
returns-clause-counted c =
    let kept = c.write_at_arrival-answer.ensures.kept in (
      ap (λ (s : State). s.config) c.count.ensures ∙ (kept.0 ∙ ap (λ (s : State). s.config) c.arrive.ensures.state),
      ap (λ (s : State). s.steps) c.count.ensures ∙ ap suc (kept.1 ∙ ap (λ (s : State). s.steps) c.arrive.ensures.state),
    )
