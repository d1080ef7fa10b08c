-- why `losses::lose_all` answers as its contract says
use Rattle.std.proofs.Common.{refl, rules, ◌<◌, length, ap, ◌∙◌, slice_set}
use Rattle.report_block.specs.Writes.{lost_by}
use Rattle.list_laws.proofs.EachLaws.{one-more}
use Rattle.block_events.proofs.losses.lose_all.Goals as goal

pub loop-place-preserved : goal.loop-place-preserved
loop-place-preserved c =
    let below : c.loop-place.place < length c.loop-place.parts.items = search rules in
    let done = one-more (lost_by c.args.a c.args.now) c.args.parts.now.items c.loop-place.parts.items c.loop-place.place c.index_mut.result.now c.loop-place.invariant.0 below c.index_mut.ensures.value in
    (ap (slice_set c.loop-place.parts.items c.loop-place.place) c.lost.ensures ∙ done.0, done.1, refl, refl)
