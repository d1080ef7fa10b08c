-- why `reading::Reading::has_settings` answers as its contract says
use Rattle.std.proofs.Common.{ap, ◌∙◌}
use Rattle.cfg_lines.specs.Facts.{Facts}
use Rattle.cfg_lines.specs.Before.{has_settings}
use Rattle.cfg_reading.proofs.reading.Reading.has_settings.Goals as goal

pub returns : goal.returns
returns c = ap (λ (f : Facts). f.settings) c.self.invariant.same_facts ∙ ap has_settings c.self.view_is
