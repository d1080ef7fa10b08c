-- why `element::put` answers as its contract says
use Rattle.ber_write.proofs.ElementLaws.{tag_below}
use Rattle.ber_write.proofs.element.put.Goals as goal

pub put_parts-done-requires-clause-tag : goal.put_parts-done-requires-clause-tag
put_parts-done-requires-clause-tag c = tag_below c.args.tag c.requires.tag
