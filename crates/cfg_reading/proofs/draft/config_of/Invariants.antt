-- what the loops of `draft::config_of` keep
use Rattle.std.proofs.Common.{◌≡◌}
use Rattle.std.specs.Vec.Iter.{into_iter_items}
use Rattle.cfg_lines.specs.Configs.{config_on, no_config}
use Rattle.cfg_reading.specs.Drafts.{drafted}
use Rattle.cfg_reading.proofs.draft.config_of.Given as goal

abbrev pub invariant-loop-line : goal.invariant-loop-line
invariant-loop-line l = config_on (drafted l.draft) (into_iter_items l.line-iterator) ≡ config_on no_config l.fn.lines.items
