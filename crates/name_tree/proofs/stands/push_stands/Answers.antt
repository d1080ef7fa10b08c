-- why `stands::push_stands` answers as its contract says
use Rattle.name_tree.proofs.StandLaws.{added-none, added-more}
use Rattle.name_tree.proofs.stands.push_stands.Goals as goal

pub loop-spot-init : goal.loop-spot-init
loop-spot-init c = added-none _ _

pub loop-spot-preserved : goal.loop-spot-preserved
loop-spot-preserved c = added-more c.args.leaves.now.items c.loop-spot.leaves.items c.push_stand.new.leaves.items c.args.stands.now.items c.loop-spot.stands.items c.push_stand.new.stands.items c.args.spots.now c.loop-spot.spot-index c.spot-item.result c.loop-spot-test.true c.spot-item.is c.loop-spot.invariant (c.in_ok-push_stand.ensures.leaves) (c.in_ok-push_stand.ensures.stands)
