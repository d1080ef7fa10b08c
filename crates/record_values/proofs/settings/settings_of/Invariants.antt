-- what the loops of `settings::settings_of` keep, and why they end
use Rattle.std.proofs.Common.{length}
use Rattle.run_record.specs.Seen.{pairs_seen}
use Rattle.record_values.proofs.SettingLaws.{IsOn}
use Rattle.record_values.proofs.settings.settings_of.Given as goal

abbrev pub invariant-loop-pair : goal.invariant-loop-pair
invariant-loop-pair l = IsOn l.fn.model (pairs_seen l.fn.pairs) (pairs_seen l.rest) l.spelled l.settings.items

abbrev pub decreases-loop-pair : goal.decreases-loop-pair
decreases-loop-pair l = length (pairs_seen l.rest)
