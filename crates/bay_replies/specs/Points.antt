-- Points at which nothing comes of a request.
use Rattle.std.specs.Prelude.{◌≡◌, ℕ, zero, suc, true, ◌∷◌}
use Rattle.std.specs.List.{All}
use Rattle.sv_base.specs.declared.config.Config.{Config}
use Rattle.bay_model.specs.Lookups.{node_of}
use Rattle.bay_model.specs.Model.{DataSet}
use Rattle.bay_model.specs.Named.{configured_model}
use Rattle.bay_model.specs.Sets.{sets}
use Rattle.bay_model.specs.Points.{Past}
use Rattle.bay_model.specs.Singles.{arrival}

-- n arrivals of step n at moment m, after a past
abbrev pub arrivals : (n m : ℕ) → ℕ → Past → Past
arrivals n m zero past = past
arrivals n m (suc k) past = arrival n m ∷ arrivals n m k past

-- the members of all data sets are nodes that may be members
abbrev pub AreAllowed : Config → Past → Type 0
AreAllowed c past = All (λ (s : DataSet). All (λ n. (node_of (configured_model c) n).allowed ≡ true) s.nodes) (sets (configured_model c) past)
