-- why `index::Index::gather` answers as its contract says
use Rattle.std.proofs.Common.{◌≡◌, ◌<◌, ◌≤◌, ◌+◌, ◌-◌, ◌∙◌, ℕ, suc, ap, sym, refl, subst, arith, length, get_or, drop, false}
use Rattle.std.specs.List.{All}
use Rattle.std.proofs.lemmas.List.{drop_all, drop_more}
use Rattle.bay_model.specs.declared.flags.Change.{Change}
use Rattle.trigger_core.specs.Noted.{change_of, reasons_in, noted}
use Rattle.touch_index.specs.declared.touch.Touch.{Touch}
use Rattle.touch_index.specs.Indexed.{Indexed, touches_in, IsOwnedFrom}
use Rattle.touch_index.specs.Gathered.{add_change, CanAdd}
use Rattle.touch_index.specs.Gathering.{note_at, no_note, trg_at, add_touched}
use Rattle.touch_index.proofs.GatherLaws.{range_of, attrs_from, noted_members, noted_nothing, noted_in_front, once_behind}
use Rattle.touch_index.proofs.GatheringLaws.{touched_within}
use Rattle.touch_index.proofs.index.Index.gather.Goals as goal

abbrev no_change : Change
no_change = record { attr = record { 0 = 0 }; flags = record { dchg = false; qchg = false; dupd = false }; differs = false }

pub loop-i-init : goal.loop-i-init
loop-i-init c = record {
  count = refl;
  rooms = λ b. refl;
  so_far = λ b ms h is.
      c.requires.empty b no_note (omega (arith, h, c.requires.count))
      ∙ sym (ap (λ l. noted l (trg_at c.args.trgs.now b) 1 ms) (drop_all (length c.args.changes.now) c.args.changes.now (omega arith)) ∙ noted_nothing (trg_at c.args.trgs.now b) 1 ms);
}

pub gather_change-requires-clause-within : goal.gather_change-requires-clause-within
gather_change-requires-clause-within c =
    let own : IsOwnedFrom 0 c.args.self.now.blocks = subst (λ (v : Indexed). IsOwnedFrom 0 v.blocks) c.self.view_is c.self.invariant.is_filled.owned in
    let x = (get_or c.args.changes.now (c.loop-i.i - 1) no_change).attr.0 in
    let same : length c.args.self.now.blocks ≡ length c.loop-i.out.notes = omega (arith, c.requires.count, c.loop-i.invariant.count) in
    subst (All (λ (t : Touch). t.block.0 < length c.loop-i.out.notes)) (sym c.touched.ensures) (touched_within x (length c.loop-i.out.notes) c.args.self.now.blocks same own)

pub gather_change-requires-clause-fits : goal.gather_change-requires-clause-fits
gather_change-requires-clause-fits c = λ b h.
    let own : IsOwnedFrom 0 c.args.self.now.blocks = subst (λ (v : Indexed). IsOwnedFrom 0 v.blocks) c.self.view_is c.self.invariant.is_filled.owned in
    let there : b < length c.args.self.now.blocks = omega (arith, h, c.requires.count, c.loop-i.invariant.count) in
    let known = c.requires.roomy b there in
    let trg = trg_at c.args.trgs.now b in
    let later = drop c.loop-i.i c.args.changes.now in
    let x = (get_or c.args.changes.now (c.loop-i.i - 1) no_change).attr.0 in
    subst (λ ts. CanAdd b ts (note_at c.loop-i.out.notes b)) (sym c.touched.ensures) (
      (λ j. reasons_in later trg (attrs_from 1 known.0 j)),
      1,
      length known.0,
      c.loop-i.invariant.so_far b known.0 there known.1 ∙ noted_members later trg 1 known.0,
      range_of c.args.self.now.blocks b x known.0 own known.1,
      (let k : length known.0 ≤ (note_at c.loop-i.out.notes b).room = omega (arith, known.2, c.loop-i.invariant.rooms b) in k),
    )

pub loop-i-preserved : goal.loop-i-preserved
loop-i-preserved c =
    let changes = c.args.changes.now in
    let i : ℕ = c.loop-i.i - 1 in
    let all = touches_in c.args.self.now.blocks in
    let ch : Change = get_or changes i no_change in
    let below : i < length changes = omega (arith, c.loop-i-test.true, c.loop-i.auto.i) in
    let own : IsOwnedFrom 0 c.args.self.now.blocks = subst (λ (v : Indexed). IsOwnedFrom 0 v.blocks) c.self.view_is c.self.invariant.is_filled.owned in
    let behind : drop (i + 1) changes ≡ drop c.loop-i.i changes = ap (λ n. drop n changes) (omega (arith, c.loop-i-test.true)) in
    let next : (b : ℕ) → b < length c.args.self.now.blocks → (note_at c.gather_change.new.out.notes b).items ≡ add_change b (trg_at c.args.trgs.now b) all ch (note_at c.loop-i.out.notes b).items
    = λ b h. c.gather_change.ensures.items b (omega (arith, h, c.requires.count, c.loop-i.invariant.count)) ∙ ap (λ ts. add_touched b (trg_at c.args.trgs.now b) ch ts (note_at c.loop-i.out.notes b).items) c.touched.ensures in
    record {
      count = c.gather_change.ensures.count ∙ c.loop-i.invariant.count;
      rooms = λ b. c.gather_change.ensures.rooms b ∙ c.loop-i.invariant.rooms b;
      so_far = λ b ms h is.
          let trg = trg_at c.args.trgs.now b in
          let one : i + 1 ≡ suc i = omega arith in
          let none = ap (λ n. change_of (drop n changes) ch.attr) one ∙ once_behind changes i no_change below c.requires.once in
          next b h ∙ (ap (add_change b trg all ch) (c.loop-i.invariant.so_far b ms h is ∙ ap (λ l. noted l trg 1 ms) (sym behind))
          ∙ (noted_in_front c.args.self.now.blocks b trg ch (drop (i + 1) changes) ms own is none ∙ ap (λ l. noted l trg 1 ms) (sym (drop_more changes i no_change below))));
    }
