-- why `leaves::leaves_of` answers as its contract says
use Rattle.std.proofs.Common.{◌++◌, sym, ap₂, ◌∙◌}
use Rattle.cfg_lines.specs.Nodes.{leaves_by}
use Rattle.cfg_nodes.specs.Asked.{wanted}
use Rattle.cfg_nodes.proofs.AskedLaws.{wanted-more}
use Rattle.cfg_nodes.proofs.leaves.leaves_of.Goals as goal

pub loop-line-preserved : goal.loop-line-preserved
loop-line-preserved c = record {
  leaves = c.in_ok-push_leaves.ensures.leaves
      ∙ (ap₂ (λ l line. l ++ wanted c.args.asked.now (leaves_by line)) c.loop-line.invariant.leaves c.line-item.is ∙ sym (wanted-more c.args.asked.now c.args.lines.now c.loop-line.line-index c.line-item.result c.loop-line-test.true));
  spot = c.in_ok-push_leaves.ensures.spot;
}
