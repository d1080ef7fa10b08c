-- What is shown of the settings that lines say.
use Rattle.std.specs.Prelude.{◌≡◌, true, false, List, None, Some}
use Rattle.sv_base.specs.declared.config.Config.{Config}
use Rattle.bay_model.specs.declared.step.Step.TheVariants as steps
use Rattle.object_model.specs.Fits.{fits}
use Rattle.run_record.specs.declared.pairs.Pair.{Pair}
use Rattle.record_values.specs.Settings.{are_named, settings_at}
use Rattle.record_values.specs.declared.settings.Found.{Found}
use Rattle.record_values.specs.declared.settings.Found.TheVariants as founds

-- what pairs were found to be
abbrev pub AreFound : Config → List Pair → Found → Type 0
AreFound c pairs (founds.Settings v) = (are_named c pairs ≡ true) × (settings_at c pairs ≡ Some v.items)
AreFound c pairs founds.Unnamed = are_named c pairs ≡ false
AreFound c pairs founds.Unspelled = (are_named c pairs ≡ true) × (settings_at c pairs ≡ None)

-- settings fit the configuration, with numbers in range and values of the types of their attributes
abbrev pub IsFitting : Config → Found → Type 0
IsFitting c (founds.Settings v) = fits c (steps.Value v.items) ≡ true
IsFitting c _ = Unit {0}
