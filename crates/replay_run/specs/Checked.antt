-- What is answered to a configuration.
use Rattle.std.specs.Prelude.{◌≡◌, ℕ, List, [], ◌++◌, length, take, codes, decimal, Option, Result, Ok, Err}
use Rattle.std.specs.Io.KnownBytes.{Appends}
use Rattle.sv_io.specs.Causes.{GrowsByFront}
use Rattle.sv_base.specs.declared.config.Config.{Config}
use Rattle.bay_model.specs.NamedLines.{domains}
use Rattle.cfg_parser.specs.declared.fault.CfgFault.{CfgFault}
use Rattle.cfg_parser.specs.declared.fault.CfgFault.TheVariants as faults
use Rattle.cfg_parser.specs.Kinds.{number_of}
use Rattle.cfg_parser.specs.Looking.{config_at}
use Rattle.record_outcome.specs.declared.status.Status.{Status}
use Rattle.record_outcome.specs.declared.status.Status.TheVariants as statuses

-- the most octets that are read of a configuration, more than any has
abbrev pub most : ℕ
most = 67108865

abbrev pub count : ℕ → List ℕ
count n = codes " " ++ decimal n

-- how many domains, logical nodes, attributes with a line of their own, data sets, report control blocks and controls
abbrev pub counts : Config → List ℕ
counts c = codes "ok" ++ count (length (domains c)) ++ count (length c.nodes) ++ count (length c.attrs) ++ count (length c.sets) ++ count (length c.blocks) ++ count (length c.controls) ++ codes "\n"

-- a status that the configuration's octets decide
abbrev pub IsChecked : Status → Type 0
IsChecked statuses.Ok = Unit {0}
IsChecked (statuses.Config line kind) = Unit {0}
IsChecked _ = ⊥

-- a status of a configuration
abbrev pub IsOfCheck : Status → Type 0
IsOfCheck statuses.Words = ⊥
IsOfCheck (statuses.Record line kind) = ⊥
IsOfCheck (statuses.Limit which line) = ⊥
IsOfCheck _ = Unit {0}

-- the counts are written, or the first refused line is told and nothing is written
abbrev pub Tells : Result Config CfgFault → Status → Option (List ℕ) → Option (List ℕ) → Type 0
Tells (Ok config) outcome old new = (outcome ≡ statuses.Ok) × Appends old new (counts config)
Tells (Err (faults.Refused line kind)) outcome old new = (outcome ≡ statuses.Config line (number_of kind)) × Appends old new []
Tells (Err faults.Memory) outcome old new = ⊥

-- the status and what the sink took are those of the configuration that the octets are
abbrev pub Checks : List ℕ → Status → Option (List ℕ) → Option (List ℕ) → Type 0
Checks octets outcome old new = Tells (config_at (take most octets)) outcome old new

-- a front of the counts is written, and of a refused configuration nothing
abbrev pub TellsFront : Result Config CfgFault → Option (List ℕ) → Option (List ℕ) → Type 0
TellsFront (Ok config) old new = GrowsByFront old new (counts config)
TellsFront (Err fault) old new = Appends old new []

-- whatever the status is, what the sink took is a front of the counts of the configuration that the octets are
abbrev pub ChecksFront : List ℕ → Option (List ℕ) → Option (List ℕ) → Type 0
ChecksFront octets old new = TellsFront (config_at (take most octets)) old new
