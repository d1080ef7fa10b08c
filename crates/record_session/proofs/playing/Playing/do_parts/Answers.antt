-- why `playing::Playing::do_parts` answers as its contract says
use Rattle.std.proofs.Common.{◌≡◌, ◌≤◌, ◌+◌, ◌∷◌, [], ℕ, List, length, take, drop, ap, sym, subst, ◌∙◌, arith}
use Rattle.std.specs.Prelude.{Some, vec_len}
use Rattle.std.specs.List.{AllByRecursion}
use Rattle.std.proofs.lemmas.List.{drop_all}
use Rattle.record_steps.specs.Streams.{made}
use Rattle.record_steps.specs.declared.heard.Heard.{Heard}
use Rattle.record_session.specs.Plays.{DoesParts, IsReadyPart}
use Rattle.record_session.proofs.PlayLaws.{DoneSo, done-none, done-more, done-all, done-stop, parts-from, ready-from, made-from}
use Rattle.record_session.proofs.playing.Playing.do_parts.Goals as goal

pub loop-part-init : goal.loop-part-init
loop-part-init c = record {
  done = done-none c.args.self.now c.args.number c.args.shape c.args.heard.now c.args.out.now.items;
  ready = c.requires.ready;
  few = omega arith;
}

pub do_part-requires-clause-ready : goal.do_part-requires-clause-ready
do_part-requires-clause-ready c =
    (ready-from c.args.heard.now c.loop-part.part-index c.part-item.result c.loop-part-test.true c.part-item.is c.loop-part.self.bay.config c.loop-part.invariant.ready).0

pub do_part-requires-clause-few : goal.do_part-requires-clause-few
do_part-requires-clause-few c = omega (arith, c.loop-part.invariant.few, c.requires.few)

pub returns-in-Some-clause-does : goal.returns-in-Some-clause-does
returns-in-Some-clause-does c =
    let all : List Heard = c.args.heard.now in
    let i : ℕ = c.loop-part.part-index in
    let part : Heard = c.part-item.result in
    let done = subst (λ (l : List Heard). DoneSo c.args.self.now c.loop-part.self c.args.number c.args.shape all l c.args.out.now.items c.loop-part.out.items) (parts-from all i part c.loop-part-test.true c.part-item.is) c.loop-part.invariant.done in
    let count : length c.args.out.now.items ≡ vec_len c.args.out.now = omega (arith, c.args.out.now.ok.0) in
    subst (DoesParts (Some c.in-Some.status) c.args.self.now c.do_part.new.self c.args.number c.args.shape all c.args.out.now.items) (ap (λ n. take n c.do_part.new.out.items) (count ∙ sym c.len-before.ensures) ∙ sym c.truncate.ensures.items)
    (done-stop c.args.self.now c.args.number c.args.shape all c.args.out.now.items c.loop-part.self c.do_part.new.self part (drop (i + 1) all) c.loop-part.out.items c.do_part.new.out.items c.in-Some.status done
    (rw c.in-Some.is at c.in_ok-status.ensures.does))

pub loop-part-preserved : goal.loop-part-preserved
loop-part-preserved c =
    let all : List Heard = c.args.heard.now in
    let i : ℕ = c.loop-part.part-index in
    let part : Heard = c.part-item.result in
    let done = subst (λ (l : List Heard). DoneSo c.args.self.now c.loop-part.self c.args.number c.args.shape all l c.args.out.now.items c.loop-part.out.items) (parts-from all i part c.loop-part-test.true c.part-item.is) c.loop-part.invariant.done in
    let few : c.do_part.new.self.bay.steps ≤ c.loop-part.self.bay.steps + made (part ∷ []) = rw c.in_default.is at c.in_ok-status.ensures.few in
    let same = rw c.in_default.is at c.in_ok-status.ensures.same in
    record {
      done = done-more c.args.self.now c.args.number c.args.shape all c.args.out.now.items c.loop-part.self c.do_part.new.self part (drop (i + 1) all) c.loop-part.out.items c.do_part.new.out.items done (rw c.in_default.is at c.in_ok-status.ensures.does);
      ready = subst (λ k. AllByRecursion (IsReadyPart k) (drop (i + 1) all)) (sym same) (ready-from all i part c.loop-part-test.true c.part-item.is c.loop-part.self.bay.config c.loop-part.invariant.ready).1;
      few = omega (arith, few, made-from all i part c.loop-part-test.true c.part-item.is, c.loop-part.invariant.few);
    }

pub returns-clause-does : goal.returns-clause-does
returns-clause-does c =
    let all : List Heard = c.args.heard.now in
    done-all c.args.self.now c.args.number c.args.shape all c.args.out.now.items c.loop-part.self c.loop-part.out.items
    (subst (λ (l : List Heard). DoneSo c.args.self.now c.loop-part.self c.args.number c.args.shape all l c.args.out.now.items c.loop-part.out.items) (drop_all c.loop-part.part-index all (omega (arith, c.loop-part-test.false))) c.loop-part.invariant.done)

pub returns-clause-few : goal.returns-clause-few
returns-clause-few c = omega (arith, c.loop-part.invariant.few)
