-- why `asked::asked_of` answers as its contract says
use Rattle.std.proofs.Common.{sym, ap, ap₂, ◌∙◌}
use Rattle.cfg_nodes.specs.Asked.{asked, with_asked}
use Rattle.cfg_nodes.proofs.NodeLaws.{reversed-more}
use Rattle.cfg_nodes.proofs.asked.asked_of.Goals as goal

pub loop-line-preserved : goal.loop-line-preserved
loop-line-preserved c = c.in_ok-add_member.ensures
    ∙ (ap₂ with_asked c.loop-line.invariant c.line-item.is ∙ sym (ap asked (reversed-more c.args.lines.now c.loop-line.line-index c.line-item.result c.loop-line-test.true)))
