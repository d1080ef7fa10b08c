-- why `bay::Bay::answer_deletion` answers as its contract says
use Rattle.std.proofs.Common.{◌≡◌, ◌∙◌, ℕ, true, false, length, List, ap, ap₂, sym, subst, arith}
use Rattle.std.specs.Prelude.{◌==◌}
use Rattle.std.proofs.lemmas.Bool.Decides.{nat_tests}
use Rattle.bay_model.specs.declared.reply.Reply.{Reply}
use Rattle.bay_model.specs.declared.reply.Reply.TheVariants as replies
use Rattle.bay_model.specs.declared.request.Service.TheVariants as services
use Rattle.bay_model.specs.declared.request.SetName.{SetName}
use Rattle.bay_core.specs.Asked.{IsReplied}
use Rattle.bay_core.specs.Deleted.{after_deletions, deleted_in, matched_in}
use Rattle.bay_core.specs.State.{State, IsBooked}
use Rattle.bay_core.proofs.ChangedLaws.{deletions-done, scope-refused}
use Rattle.bay_core.proofs.DeletionLaws.{kept-deleted}
use Rattle.bay_core.proofs.bay.Bay.answer_deletion.Goals as goal

pub returns-then-scope-ne-SPECIFIC-clause-answered : goal.returns-then-scope-ne-SPECIFIC-clause-answered
returns-then-scope-ne-SPECIFIC-clause-answered c =
    let other : (c.args.scope == 0) ≡ false = grind (arith, nat_tests, c.if-scope-ne-SPECIFIC.true) in
    scope-refused c.args.self.now c.arrive.new.self c.args.moment c.args.a.0 c.args.scope c.args.names.now c.requires.number other c.arrive.ensures.stands

pub returns-clause-answered : goal.returns-clause-answered
returns-clause-answered c =
    let s = c.self.inside in
    let old = c.args.self.now in
    let z = c.arrive-2.new.self in
    let names = c.args.names.now in
    let f = c.self.invariant.furnished in
    let all : (c.args.scope == 0) ≡ true = grind (arith, nat_tests, c.if-scope-ne-SPECIFIC.false) in
    let new : c.delete_all-matched.new.self ≡ after_deletions names z = c.delete_all-matched.ensures.state ∙ ap (λ (l : List SetName). after_deletions l z) c.as_slice.ensures in
    let matched : c.delete_all-matched.result.0 ≡ matched_in names z = c.delete_all-matched.ensures.matched ∙ ap (λ (l : List SetName). matched_in l z) c.as_slice.ensures in
    let gone : c.delete_all-matched.result.1 ≡ deleted_in names z = c.delete_all-matched.ensures.deleted ∙ ap (λ (l : List SetName). deleted_in l z) c.as_slice.ensures in
    subst (λ (r : Reply). IsReplied old c.delete_all-matched.new.self c.args.moment c.args.a.0 (services.Delete c.args.scope names) r) (ap₂ (λ (i j : ℕ). replies.Deleted i j) (sym matched) (sym gone))
    (subst (λ (t : State). IsReplied old t c.args.moment c.args.a.0 (services.Delete c.args.scope names) (replies.Deleted (matched_in names z) (deleted_in names z))) (sym new)
    (deletions-done old z c.args.moment c.args.a.0 c.args.scope names
    (subst (λ (t : State). length t.parts ≡ length t.config.blocks) c.self.view_is f.count)
    (subst (λ (t : State). IsBooked t.config t.book) c.self.view_is f.booked)
    c.requires.number all c.arrive-2.ensures.state c.arrive-2.ensures.stands))

pub returns-clause-kept : goal.returns-clause-kept
returns-clause-kept c =
    let z = c.arrive-2.new.self in
    let new = c.delete_all-matched.ensures.state in
    let kept = kept-deleted c.as_slice.result.now z in
    let behind = c.arrive-2.ensures.state in
    record {
      config = ap (λ (t : State). t.config) new ∙ (kept.config ∙ ap (λ (t : State). t.config) behind);
      steps = ap (λ (t : State). t.steps) new ∙ (kept.steps ∙ ap (λ (t : State). t.steps) behind);
      rows = ap (λ (t : State). t.rows) new ∙ (kept.rows ∙ ap (λ (t : State). t.rows) behind);
    }
