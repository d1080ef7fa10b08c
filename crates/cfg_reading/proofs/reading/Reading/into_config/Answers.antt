-- why `reading::Reading::into_config` answers as its contract says
use Rattle.std.proofs.Common.{ap, ◌∙◌}
use Rattle.cfg_lines.specs.Configs.{config_of}
use Rattle.cfg_lines.proofs.ConfigLaws.{config-on}
use Rattle.cfg_reading.proofs.reading.Reading.into_config.Goals as goal

pub returns : goal.returns
returns c = c.in_ok-config.ensures ∙ (config-on c.self.inside.kept.lines.items ∙ ap config_of c.self.view_is)
