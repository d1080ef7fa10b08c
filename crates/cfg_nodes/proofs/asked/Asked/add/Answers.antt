-- why `asked::Asked::add` answers as its contract says
use Rattle.cfg_nodes.proofs.HeadLaws.{heads-more}
use Rattle.cfg_nodes.proofs.asked.Asked.add.Goals as goal

pub invariant_of-self : goal.invariant_of-self
invariant_of-self c = heads-more c.self.inside.references c.self.inside.heads c.add_both.new.references c.add_both.new.heads c.args.reference.now c.self.invariant c.in-Ok.ensures.references c.in-Ok.ensures.heads
