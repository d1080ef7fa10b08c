-- why `watch::filling_of` answers as its contract says
use Rattle.std.proofs.Common.{◌≡◌, ◌≤◌, ◌<◌, ◌∙◌, inl, inr, ℕ, List, Option, None, Some, slice_index_or, ap, sym, subst, arith, length}
use Rattle.std.specs.Prelude.{slice_get}
use Rattle.std.proofs.lemmas.Bool.{cases_eq}
use Rattle.std.proofs.lemmas.List.{length-replicate, get_or-replicate}
use Rattle.std.proofs.lemmas.Option.{slice_get_within}
use Rattle.sv_base.specs.Filled.{Filled}
use Rattle.bay_model.specs.declared.tables.MemberShape.{MemberShape}
use Rattle.std.specs.List.{All}
use Rattle.bay_model.specs.declared.tables.NodeRow.{NodeRow}
use Rattle.set_view.specs.Shapes.{AreThere, shapes_of}
use Rattle.data_sets.specs.Books.{Book, IsSet, nodes_in}
use Rattle.touch_index.specs.declared.touch.Touch.{Touch}
use Rattle.touch_index.specs.Indexed.{AreAmong, Indexed, bare, block_at, none, pairs, with_members}
use Rattle.touch_index.specs.Gathered.{IsSetOf}
use Rattle.report_block.specs.declared.block.ReportBlock.{ReportBlock}
use Rattle.block_watch.specs.Watched.{IsWatchable, members_at, members_in}
use Rattle.block_watch.proofs.WatchLaws.{set-put, put-stays, put-count, put-room, at-place}
use Rattle.block_watch.proofs.watch.filling_of.Goals as goal
use Rattle.list_laws.proofs.Options.{some_is}

-- the data set of the part that is put
watchable : (rows : List NodeRow) (book : Book) (n i : ℕ) (parts : List ReportBlock) (part : ReportBlock) → All (IsWatchable rows book n) parts → i < length parts → part ≡ slice_index_or parts i part → IsWatchable rows book n part
watchable rows book n i parts part all below is = subst (IsWatchable rows book n) (sym is) (all i part below)

pairs-within : (rows : List NodeRow) (book : Book) (room : ℕ) (o : Option ℕ) → IsSet book o → ((k : ℕ) → k < length book.sets → pairs (members_at rows book k) ≤ room) → pairs (shapes_of rows (nodes_in book o)) ≤ room
pairs-within rows book room None is most = omega arith
pairs-within rows book room (Some k) is most = most k is

pub view-set-requires-clause-set : goal.view-set-requires-clause-set
view-set-requires-clause-set c =
    let w = watchable c.args.rows.now c.args.book.now c.args.attrs c.loop-b.b c.args.parts.now c.index-parts-b.result c.requires.watchable c.loop-b-test.true c.index-parts-b.is in
    subst (IsSet c.args.book.now) (sym c.set.ensures) w.lent.set

pub view-set-requires-clause-there : goal.view-set-requires-clause-there
view-set-requires-clause-there c =
    let w = watchable c.args.rows.now c.args.book.now c.args.attrs c.loop-b.b c.args.parts.now c.index-parts-b.result c.requires.watchable c.loop-b-test.true c.index-parts-b.is in
    subst (λ o. AreThere (length c.args.rows.now) (nodes_in c.args.book.now o)) (sym c.set.ensures) w.lent.there

pub put-requires-clause-counted : goal.put-requires-clause-counted
put-requires-clause-counted c =
    let w = watchable c.args.rows.now c.args.book.now c.args.attrs c.loop-b.b c.args.parts.now c.index-parts-b.result c.requires.watchable c.loop-b-test.true c.index-parts-b.is in
    omega (arith, w.few, ap length (c.view-set.ensures ∙ ap (λ o. shapes_of c.args.rows.now (nodes_in c.args.book.now o)) c.set.ensures))

pub put-requires-clause-among : goal.put-requires-clause-among
put-requires-clause-among c =
    let w = watchable c.args.rows.now c.args.book.now c.args.attrs c.loop-b.b c.args.parts.now c.index-parts-b.result c.requires.watchable c.loop-b-test.true c.index-parts-b.is in
    subst (λ n. AreAmong n c.view-set.result) (sym c.loop-b.invariant.attrs)
    (subst (AreAmong c.args.attrs) (sym (c.view-set.ensures ∙ ap (λ o. shapes_of c.args.rows.now (nodes_in c.args.book.now o)) c.set.ensures)) w.among)

pub put-requires-clause-room : goal.put-requires-clause-room
put-requires-clause-room c =
    let w = watchable c.args.rows.now c.args.book.now c.args.attrs c.loop-b.b c.args.parts.now c.index-parts-b.result c.requires.watchable c.loop-b-test.true c.index-parts-b.is in
    let same = c.view-set.ensures ∙ ap (λ o. shapes_of c.args.rows.now (nodes_in c.args.book.now o)) c.set.ensures in
    omega (arith, ap pairs same, pairs-within c.args.rows.now c.args.book.now c.in_ok-room.room c.index-parts-b.result.set w.lent.set c.in_ok-room.ensures)

pub loop-b-preserved : goal.loop-b-preserved
loop-b-preserved c =
    let i = c.loop-b.b in
    let bs = c.loop-b.filling.blocks in
    let rows = c.args.rows.now in
    let book = c.args.book.now in
    let ms = c.view-set.result in
    let room = c.in_ok-room.room in
    let put = c.put.ensures in
    let below : i < length bs = omega (arith, c.loop-b-test.true, c.loop-b.invariant.count) in
    record {
      attrs = ap (λ (x : Indexed). x.attrs) put ∙ c.loop-b.invariant.attrs;
      count = ap (λ (x : Indexed). length x.blocks) put ∙ (put-count bs i ms ∙ c.loop-b.invariant.count);
      touches = λ k part h at. subst (λ (x : Indexed). IsSetOf x.blocks k (members_in rows book part)) (sym put) (elim (cases_eq k i) [
        | inl e ↦
            let same = some_is part c.index-parts-b.result (sym at ∙ (ap (slice_get c.args.parts.now) e ∙ at-place c.args.parts.now i c.index-parts-b.result c.loop-b-test.true c.index-parts-b.is)) in
            let mine = c.view-set.ensures ∙ (ap (λ o. shapes_of rows (nodes_in book o)) c.set.ensures ∙ ap (members_in rows book) (sym same)) in
            subst (λ j. IsSetOf (with_members i ms bs) j (members_in rows book part)) (sym e)
            (subst (λ (l : List MemberShape). IsSetOf (with_members i ms bs) i l) mine (set-put bs i ms below))
        | inr e ↦ put-stays bs i k ms (members_in rows book part) e (c.loop-b.invariant.touches k part (omega (arith, h, e)) at)
      ]);
      roomy = λ k h. ap (λ (x : Indexed). (block_at x.blocks k).room) put ∙ (put-room bs i k ms below ∙ c.loop-b.invariant.roomy k h);
    }

pub loop-b-init : goal.loop-b-init
loop-b-init c = record {
  attrs = ap (λ (x : Indexed). x.attrs) c.in_ok-filling.ensures;
  count = ap (λ (x : Indexed). length x.blocks) c.in_ok-filling.ensures ∙ length-replicate (length c.args.parts.now) (bare c.in_ok-room.room);
  touches = λ k part h at. absurd (omega (arith, h));
  roomy = λ k h. ap (λ (x : Indexed). (block_at x.blocks k).room) c.in_ok-filling.ensures ∙ ap (λ (g : Filled Touch). g.room) (get_or-replicate (length c.args.parts.now) k (bare c.in_ok-room.room) none h);
}

pub returns : goal.returns
returns c = record {
  attrs = c.loop-b.invariant.attrs;
  count = c.loop-b.invariant.count;
  touches = λ b part at. c.loop-b.invariant.touches b part (omega (arith, slice_get_within c.args.parts.now b part at, c.loop-b-test.false)) at;
  roomy = λ b k h below. omega (arith, c.in_ok-room.ensures k below, c.loop-b.invariant.roomy b (omega (arith, h, c.loop-b.invariant.count)));
}
