-- why `reading::Reading::node` answers as its contract says
use Rattle.std.proofs.Common.{ap, ◌∙◌}
use Rattle.cfg_lines.specs.Facts.{Facts}
use Rattle.cfg_lines.specs.Before.{node_of}
use Rattle.cfg_reading.proofs.reading.Reading.node.Goals as goal

pub returns : goal.returns
returns c = c.as_slice.ensures ∙ (ap (λ (f : Facts). f.node) c.self.invariant.same_facts ∙ ap node_of c.self.view_is)
