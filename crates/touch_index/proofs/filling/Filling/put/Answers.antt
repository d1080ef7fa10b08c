-- why `filling::Filling::put` answers as its contract says
use Rattle.std.proofs.Common.{◌≤◌, ◌<◌, arith, length, subst, sym, ap, refl, set}
use Rattle.touch_index.specs.Indexed.{Indexed, AreAmong, block_at, pairs}
use Rattle.touch_index.proofs.IndexLaws.{block_put, put_is_filled}
use Rattle.touch_index.proofs.filling.Filling.put.Goals as goal

pub invariant_of-self : goal.invariant_of-self
invariant_of-self c =
    let i = c.self.inside in
    let ms = c.args.set.now in
    let h : c.args.b.0 < length i.blocks.items = omega (arith, c.requires.block, ap (λ (v : Indexed). length v.blocks) c.self.view_is) in
    let blocks = set i.blocks.items c.args.b.0 c.fill.new.block in
    put_is_filled i.blocks.items i.rows.items i.sorted.items c.args.b.0 ms blocks (record {
      before = c.self.invariant;
      among = subst (λ n. AreAmong n ms) (sym (ap (λ (v : Indexed). v.attrs) c.self.view_is)) c.requires.among;
      room = subst (λ (v : Indexed). pairs ms ≤ (block_at v.blocks c.args.b.0).room) (sym c.self.view_is) c.requires.room;
      made = block_put i.blocks.items c.args.b.0 c.index_mut.result.now c.fill.new.block ms blocks h c.index_mut.ensures.value c.fill.ensures refl;
    })
