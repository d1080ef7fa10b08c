-- what the loops of `fitting::settings_fit` keep
use Rattle.std.proofs.Common.{◌≡◌, drop}
use Rattle.std.specs.List.{list_all}
use Rattle.name_leaves.specs.Attributes.{types_of}
use Rattle.step_fitting.specs.Fits.{setting_fits}
use Rattle.step_fitting.proofs.fitting.settings_fit.Given as goal

abbrev pub invariant-loop-setting : goal.invariant-loop-setting
invariant-loop-setting l = list_all (setting_fits (types_of l.rows)) (drop l.setting-index l.settings) ≡ list_all (setting_fits (types_of l.rows)) l.settings
