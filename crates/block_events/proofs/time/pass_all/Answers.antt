-- why `time::pass_all` answers as its contract says
use Rattle.std.proofs.Common.{◌<◌, ◌≤◌, ◌∙◌, length, ap, refl, sym, subst, arith, rules, inl, inr}
use Rattle.std.specs.Prelude.{slice_get, slice_set}
use Rattle.std.proofs.lemmas.List.{length-set}
use Rattle.std.proofs.lemmas.Option.{slice_get_within}
use Rattle.list_laws.proofs.EachLaws.{one-more}
use Rattle.list_laws.proofs.Places.{all-at, got-set}
use Rattle.block_events.specs.Events.{IsReady}
use Rattle.block_events.specs.Timed.{arrived_part, IsQuietUntil}
use Rattle.block_watch.proofs.WatchLaws.{at-place}
use Rattle.block_events.proofs.time.pass_all.Goals as goal

pub loop-place-init : goal.loop-place-init
loop-place-init c = record {
  parts = refl;
  within = omega arith;
  entry = c.requires.entry;
  count = c.requires.quiet.count;
  done = λ b due part below at there. absurd (omega (arith, below));
  left = λ b due part below at there. c.requires.quiet.each b due part at there;
  ready = λ b part below there. all-at (IsReady c.args.source.now.rows.now c.args.source.now.book.now c.args.source.now.store.now) c.args.parts.now.items b part c.requires.ready there;
}

pub pass_one-due-requires-clause-ready : goal.pass_one-due-requires-clause-ready
pass_one-due-requires-clause-ready c =
    let place = c.loop-place.place in
    let below : place < length c.loop-place.parts.items = search rules in
    let here : place ≤ place = omega arith in
    c.loop-place.invariant.ready place c.index_mut-part.result.now here (at-place c.loop-place.parts.items place c.index_mut-part.result.now below c.index_mut-part.ensures.value)

pub pass_one-due-requires-clause-quiet : goal.pass_one-due-requires-clause-quiet
pass_one-due-requires-clause-quiet c =
    let place = c.loop-place.place in
    let below : place < length c.loop-place.parts.items = search rules in
    let here : place ≤ place = omega arith in
    c.loop-place.invariant.left place c.at-due.result c.index_mut-part.result.now here c.at-due.ensures (at-place c.loop-place.parts.items place c.index_mut-part.result.now below c.index_mut-part.ensures.value)

pub loop-place-preserved : goal.loop-place-preserved
loop-place-preserved c =
    let place = c.loop-place.place in
    let parts = c.loop-place.parts.items in
    let dues = c.loop-place.dues in
    let new = c.pass_one-due.new.part in
    let due = c.pass_one-due.result in
    let below : c.loop-place.place < length c.loop-place.parts.items = search rules in
    let done = one-more (arrived_part c.args.source.now.rows.now c.args.source.now.book.now c.args.source.now.store.now c.args.was c.args.now c.args.step) c.args.parts.now.items parts place c.index_mut-part.result.now c.loop-place.invariant.parts below c.index_mut-part.ensures.value in
    record {
      parts = ap (slice_set parts place) c.pass_one-due.ensures.part ∙ done.0;
      within = done.1;
      entry = c.pass_one-due.ensures.entry;
      count = ap length c.put.ensures ∙ (length-set dues place due ∙ (c.loop-place.invariant.count ∙ sym (length-set parts place new)));
      done = λ b d q h at there. elim (got-set dues place b due d (ap (λ l. slice_get l b) (sym c.put.ensures) ∙ at)) [
        | inl e ↦ elim (got-set parts place b new q there) [
          | inl f ↦ subst (λ x. IsQuietUntil c.args.now x q) (sym e.1) (subst (IsQuietUntil c.args.now due) (sym f.1) c.pass_one-due.ensures.quiet)
          | inr f ↦ absurd (f.0 e.0)
        ]
        | inr e ↦ elim (got-set parts place b new q there) [
          | inl f ↦ absurd (e.0 f.0)
          | inr f ↦ c.loop-place.invariant.done b d q (omega (arith, h, e.0)) e.1 f.1
        ]
      ];
      left = λ b d q h at there. elim (got-set dues place b due d (ap (λ l. slice_get l b) (sym c.put.ensures) ∙ at)) [
        | inl e ↦ absurd (omega (arith, h, e.0))
        | inr e ↦ elim (got-set parts place b new q there) [
          | inl f ↦ absurd (omega (arith, h, f.0))
          | inr f ↦ c.loop-place.invariant.left b d q (omega (arith, h)) e.1 f.1
        ]
      ];
      ready = λ b q h there. elim (got-set parts place b new q there) [
        | inl e ↦ absurd (omega (arith, h, e.0))
        | inr e ↦ c.loop-place.invariant.ready b q (omega (arith, h)) e.1
      ];
    }

pub returns-clause-quiet : goal.returns-clause-quiet
returns-clause-quiet c = record {
  count = ap length c.settle.ensures ∙ c.loop-place.invariant.count;
  each = λ b due part at there.
      (let below = slice_get_within c.loop-place.parts.items b part there in
      c.loop-place.invariant.done b due part (omega (arith, below, c.len.ensures)) (ap (λ l. slice_get l b) (sym c.settle.ensures) ∙ at) there);
}
