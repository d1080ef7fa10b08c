-- why `bay::Bay::answer_plain` answers as its contract says
use Rattle.std.proofs.Common.{◌≡◌, ℕ, Result, Ok, Err, refl, sym, subst}
use Rattle.std.specs.Prelude.{IfOk}
use Rattle.bay_model.specs.declared.reply.Reply.{Reply}
use Rattle.bay_model.specs.declared.request.Service.{Service}
use Rattle.assoc_table.specs.Tables.{IsNumber}
use Rattle.bay_core.specs.Asked.{IsAnswered, IsReplied}
use Rattle.bay_core.specs.Commanded.{CallsNothing}
use Rattle.block_watch.specs.Served.{AreServedSets}
use Rattle.bay_core.specs.State.{State}
use Rattle.bay_core.proofs.AnswerLaws.{reading-of}
use Rattle.bay_core.proofs.AskLaws.{IsQuietService, answered-replied, quiet-read}
use Rattle.bay_core.proofs.bay.Bay.answer_plain.Goals as goal

if-ok : {A E : Type 0} (P Q : A → Type 0) (r : Result A E) → ((x : A) → P x → Q x) → IfOk r P → IfOk r Q
if-ok P Q (Ok x) goes is = goes x is
if-ok P Q (Err e) goes is = is

pub answer_read-requires-clause-reading : goal.answer_read-requires-clause-reading
answer_read-requires-clause-reading c = reading-of c.args.service.now c.requires.plain c.in_default.not-Read c.in_default.not-WriteSet c.in_default.not-Define c.in_default.not-Delete

-- a request that leaves the data sets alone
quiet-goes : {E : Type 0} (old new : State) (moment a : ℕ) {s k : Service} (r : Result Reply E) → s ≡ k → IsQuietService k → CallsNothing s → AreServedSets old.config old.book → IsNumber a
    → IfOk r (λ (x : Reply). IsAnswered old new moment a k x) → IfOk r (λ (x : Reply). IsReplied old new moment a s x)
quiet-goes old new moment a {s} {k} r is quiet calls served number answered =
    subst (λ (t : Service). IfOk r (λ (x : Reply). IsReplied old new moment a t x)) (sym is)
    (if-ok (λ (x : Reply). IsAnswered old new moment a k x) (λ (x : Reply). IsReplied old new moment a k x) r (λ x goes. answered-replied old new moment a k x served number quiet (subst CallsNothing is calls) goes) answered)

pub returns-in-Read-clause-answered : goal.returns-in-Read-clause-answered
returns-in-Read-clause-answered c =
    quiet-goes c.args.self.now c.answer_variables.new.self c.args.moment c.args.a.0 c.answer_variables.result c.in-Read.is tt c.requires.plain
    (subst (λ (t : State). AreServedSets t.config t.book) c.self.view_is c.self.invariant.furnished.booked.served) c.requires.number c.answer_variables.ensures.answered

pub returns-in-WriteSet-clause-answered : goal.returns-in-WriteSet-clause-answered
returns-in-WriteSet-clause-answered c =
    quiet-goes c.args.self.now c.answer_set.new.self c.args.moment c.args.a.0 c.answer_set.result c.in-WriteSet.is tt c.requires.plain
    (subst (λ (t : State). AreServedSets t.config t.book) c.self.view_is c.self.invariant.furnished.booked.served) c.requires.number c.answer_set.ensures.answered

pub returns-in_default-clause-answered : goal.returns-in_default-clause-answered
returns-in_default-clause-answered c =
    let k = c.args.service.now in
    quiet-goes c.args.self.now c.answer_read.new.self c.args.moment c.args.a.0 {s = k} {k = k} c.answer_read.result refl
    (quiet-read k (reading-of k c.requires.plain c.in_default.not-Read c.in_default.not-WriteSet c.in_default.not-Define c.in_default.not-Delete)) c.requires.plain
    (subst (λ (t : State). AreServedSets t.config t.book) c.self.view_is c.self.invariant.furnished.booked.served) c.requires.number c.answer_read.ensures.answered
