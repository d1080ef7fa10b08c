-- why `settings::settings_of` answers as its contract says
use Rattle.std.proofs.Common.{ap, ◌∙◌}
use Rattle.std.specs.Prelude.{Some}
use Rattle.run_record.specs.Seen.{pairs_seen}
use Rattle.record_values.specs.Settings.{settings_from}
use Rattle.record_values.proofs.SettingLaws.{kept_if}
use Rattle.record_values.proofs.FitLaws.{settings-fit}
use Rattle.record_values.proofs.settings.settings_of.Goals as goal

pub returns-then-spelled-clause-fits : goal.returns-then-spelled-clause-fits
returns-then-spelled-clause-fits c =
    let model = c.args.model.now in
    let settings = c.loop-pair.settings.items in
    settings-fit model c.attr_rows-rows.ensures.settable (pairs_seen c.args.pairs.now) settings
    (c.loop-pair.invariant.1 ∙ (ap (λ b. settings_from model (kept_if b settings) (pairs_seen c.loop-pair.rest)) c.if-spelled.true ∙ ap (settings_from model (Some settings)) c.in_default.ensures.pair))
