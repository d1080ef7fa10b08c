-- why `reading::Reading::groups` answers as its contract says
use Rattle.std.proofs.Common.{ap, ◌∙◌}
use Rattle.cfg_lines.specs.Facts.{Facts}
use Rattle.cfg_lines.specs.Before.{groups_of}
use Rattle.cfg_reading.proofs.reading.Reading.groups.Goals as goal

pub returns : goal.returns
returns c = ap (λ (f : Facts). f.groups) c.self.invariant.same_facts ∙ ap groups_of c.self.view_is
