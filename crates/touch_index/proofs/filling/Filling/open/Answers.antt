-- why `filling::Filling::open` answers as its contract says
use Rattle.touch_index.proofs.IndexLaws.{begun}
use Rattle.touch_index.proofs.filling.Filling.open.Goals as goal

pub invariant_of-result : goal.invariant_of-result
invariant_of-result c = begun c.args.blocks c.args.room c.in_ok-bare_blocks.field-0.items c.in_ok-vec.field-0.items c.in_ok-no_touches.field-0.items c.in_ok-bare_blocks.ensures c.in_ok-no_touches.ensures
