-- why `element::put_head` answers as its contract says
use Rattle.ber_write.proofs.ElementLaws.{tag_below}
use Rattle.ber_write.proofs.element.put_head.Goals as goal

pub put_both-done-requires : goal.put_both-done-requires
put_both-done-requires c = tag_below c.args.tag c.requires
