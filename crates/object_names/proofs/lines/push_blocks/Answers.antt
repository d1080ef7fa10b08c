-- why `lines::push_blocks` answers as its contract says
use Rattle.object_names.proofs.LineLaws.{blocks_more}
use Rattle.object_names.proofs.lines.push_blocks.Goals as goal

pub loop-block-preserved : goal.loop-block-preserved
loop-block-preserved c = blocks_more c.args.blocks.now c.loop-block.block-index c.loop-block.number _ c.block-item.result c.loop-block.out.items _ _ c.loop-block-test.true c.block-item.is c.in_ok-push_block_line.ensures c.in_ok-number.ensures c.loop-block.invariant
