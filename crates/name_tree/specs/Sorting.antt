-- The names of a domain's variables (ISO 9506-2, GetNameList: the names after one, in the order of their octets).
use Rattle.std.specs.Prelude.{ℕ, List}
use Rattle.sv_base.specs.declared.config.Config.{Config}
use Rattle.bay_model.specs.Names.{variables_of}
use Rattle.bay_model.specs.Named.{configured_model}
pub use Rattle.name_order.specs.Sorting.{names_above}

abbrev pub variables_after : Config → List ℕ → List ℕ → List (List ℕ)
variables_after c domain after = names_above (variables_of (configured_model c) domain) after
