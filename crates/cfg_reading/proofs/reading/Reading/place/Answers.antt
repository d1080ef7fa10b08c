-- why `reading::Reading::place` answers as its contract says
use Rattle.std.proofs.Common.{ap, ◌∙◌}
use Rattle.cfg_lines.specs.Facts.{Facts}
use Rattle.cfg_lines.specs.Before.{place_of}
use Rattle.cfg_reading.proofs.reading.Reading.place.Goals as goal

pub returns : goal.returns
returns c = ap (λ (f : Facts). f.place) c.self.invariant.same_facts ∙ ap place_of c.self.view_is
