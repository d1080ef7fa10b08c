-- Requests that read and write no variable (ISO 9506-2: Status, Identify, Conclude, GetNameList, GetVariableAccessAttributes, Read of a
-- named variable list, GetNamedVariableListAttributes, and a Reject).
use Rattle.std.specs.Prelude.{◌≡◌, true, length}
use Rattle.sv_base.specs.declared.config.Config.{Config}
use Rattle.bay_model.specs.declared.request.Service.{Service}
use Rattle.bay_model.specs.declared.request.Service.TheVariants as services
use Rattle.object_model.specs.Fits.{service_fits}
use Rattle.object_model.specs.Nodes.{node_rows}

-- it reads and writes no variable, and defines and deletes no data set; to read a data set selects nothing
abbrev pub IsReading : Service → Type 0
IsReading (services.Read ts spec) = ⊥
IsReading (services.WriteVars ws) = ⊥
IsReading (services.WriteSet domain item vs) = ⊥
IsReading (services.Define domain item members) = ⊥
IsReading (services.Delete scope names) = ⊥
IsReading _ = Unit {0}

-- as a step that asks for it fits the configuration
abbrev pub IsFitting : Config → Service → Type 0
IsFitting c s = service_fits (record { nodes = length (node_rows c); blocks = length c.blocks; controls = length c.controls }) s ≡ true
