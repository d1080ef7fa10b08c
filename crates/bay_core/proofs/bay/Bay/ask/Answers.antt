-- why `bay::Bay::ask` answers as its contract says
use Rattle.std.proofs.Common.{◌≡◌, ◌∙◌, List, Some, suc, true, false, refl, ap, sym, subst}
use Rattle.std.specs.Prelude.{nat_le}
use Rattle.std.specs.Option.{option_map}
use Rattle.bay_model.specs.declared.answer.Answer.TheVariants as answers
use Rattle.assoc_table.specs.declared.waiting.Ends.{Ends}
use Rattle.assoc_table.specs.Seats.{Row, replies}
use Rattle.assoc_table.specs.Tables.{row_of}
use Rattle.bay_core.specs.Put.{IsOpenAt}
use Rattle.bay_core.specs.State.{State}
use Rattle.bay_core.proofs.EndLaws.{opened-by}
use Rattle.bay_core.proofs.AskLaws.{asked-for, fine-for, full-for}
use Rattle.bay_core.proofs.bay.Bay.ask.Goals as goal

pub returns-then-is_full-clause-does : goal.returns-then-is_full-clause-does
returns-then-is_full-clause-does c = (
  refl,
  λ c' h was.
      let is = subst (λ (t : State). option_map (λ (e : Ends). e.opener) (row_of t.rows c.args.a.0).ends ≡ Some c.in-Some.opener) c.self.view_is (sym c.opener.ensures ∙ c.in-Some.is) in
      let full = subst (λ (t : State). nat_le 16 (replies (row_of t.rows c.args.a.0).waiting) ≡ true) c.self.view_is (sym c.is_full.ensures ∙ c.if-is_full.true) in
      full-for c.args.self.now c' h c.args.moment c.args.actor c.args.a c.args.request.now c.in-Some.opener c.requires.number was is c.if-actor-opener.false full,
)

pub answer-requires-clause-is_open : goal.answer-requires-clause-is_open
answer-requires-clause-is_open c = subst (λ (t : State). IsOpenAt t c.args.a.0) c.self.view_is
    (opened-by c.self.inside.associations.rows c.args.a.0 c.in-Some.opener (sym c.opener.ensures ∙ c.in-Some.is))

pub returns-in-Err-clause-does : goal.returns-in-Err-clause-does
returns-in-Err-clause-does c = (
  c.in-Err.ensures.refused,
  λ c' h was.
      let is = subst (λ (t : State). option_map (λ (e : Ends). e.opener) (row_of t.rows c.args.a.0).ends ≡ Some c.in-Some.opener) c.self.view_is (sym c.opener.ensures ∙ c.in-Some.is) in
      let room = subst (λ (t : State). nat_le 16 (replies (row_of t.rows c.args.a.0).waiting) ≡ false) c.self.view_is (sym c.is_full.ensures ∙ c.if-is_full.false) in
      sym (fine-for c.args.self.now c' h c.args.moment c.args.actor c.args.a c.args.request.now c.in-Some.opener c.requires.number was is c.if-actor-opener.false room),
)

pub put_reply-acts-requires-clause-room : goal.put_reply-acts-requires-clause-room
put_reply-acts-requires-clause-room c =
    subst (λ (rows : List Row). nat_le 16 (replies (row_of rows c.args.a.0).waiting) ≡ false) (sym c.in-Ok.ensures.kept.rows)
    (subst (λ (t : State). nat_le 16 (replies (row_of t.rows c.args.a.0).waiting) ≡ false) c.self.view_is (sym c.is_full.ensures ∙ c.if-is_full.false))

pub put_reply-acts-requires-clause-tests : goal.put_reply-acts-requires-clause-tests
put_reply-acts-requires-clause-tests c = c.in-Ok.ensures.came.due

pub returns-clause-does : goal.returns-clause-does
returns-clause-does c = λ c' h was.
    let is = subst (λ (t : State). option_map (λ (e : Ends). e.opener) (row_of t.rows c.args.a.0).ends ≡ Some c.in-Some.opener) c.self.view_is (sym c.opener.ensures ∙ c.in-Some.is) in
    let room = subst (λ (t : State). nat_le 16 (replies (row_of t.rows c.args.a.0).waiting) ≡ false) c.self.view_is (sym c.is_full.ensures ∙ c.if-is_full.false) in
    let asked = asked-for c.args.self.now c' h c.args.moment c.args.actor c.args.a c.args.request.now c.in-Some.opener c.requires.number was is c.if-actor-opener.false c.answer.new.self c.count.new.self c.in-Ok.came
    room c.in-Ok.ensures.came (c.count.ensures ∙ ap (λ (t : State). record t { steps = suc t.steps }) c.put_reply-acts.ensures.put) in
    (ap answers.Asked c.put_reply-acts.ensures.acts ∙ asked.0, asked.1)
