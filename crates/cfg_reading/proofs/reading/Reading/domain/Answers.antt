-- why `reading::Reading::domain` answers as its contract says
use Rattle.std.proofs.Common.{ap, ◌∙◌}
use Rattle.cfg_lines.specs.Facts.{Facts}
use Rattle.cfg_lines.specs.Before.{domain_of}
use Rattle.cfg_reading.proofs.reading.Reading.domain.Goals as goal

pub returns : goal.returns
returns c = c.as_slice.ensures ∙ (ap (λ (f : Facts). f.domain) c.self.invariant.same_facts ∙ ap domain_of c.self.view_is)
