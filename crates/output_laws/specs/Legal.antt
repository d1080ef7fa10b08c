-- Histories of a configuration: each step fits it and is accepted.
use Rattle.std.specs.Prelude.{◌≡◌, true, [], ◌∷◌}
use Rattle.sv_base.specs.declared.config.Config.{Config}
use Rattle.bay_model.specs.Named.{configured_model}
use Rattle.bay_model.specs.Answers.{History}
use Rattle.bay_model.specs.Acceptance.{IsHistory}
use Rattle.object_model.specs.Fits.{fits}

abbrev pub AreFit : Config → History → Type 0
AreFit c [] = Unit {0}
AreFit c (t ∷ h) = AreFit c h × (fits c t.step ≡ true)

pub record IsLegal (c : Config) (h : History) : Type 0 where
  pub accepted : IsHistory (configured_model c) h
  pub fit : AreFit c h
