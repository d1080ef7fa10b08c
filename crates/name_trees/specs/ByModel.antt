-- What lines name, by the nodes and the data sets of a model alone (IEC 61850-7-2, ObjectReference, DATA-SET).
use Rattle.std.specs.Prelude.{ℕ, ◌==◌, ◌||◌, Bool, ◌&&◌, List, [], ◌∷◌, length, Result, Ok, Err, if◌then◌else◌}
use Rattle.std.specs.List.{list_any}
use Rattle.std.specs.Str.{bytes_eq}
use Rattle.sv_base.specs.declared.config.Config.{Config}
use Rattle.bay_model.specs.Model.{Model, Node, DataSet}
use Rattle.bay_model.specs.Lookups.{reference_of}
use Rattle.bay_model.specs.Named.{configured_model}
use Rattle.cfg_lines.specs.declared.line.Line.{Line}
use Rattle.cfg_lines.specs.declared.line.Line.TheVariants as lines
use Rattle.cfg_lines.specs.Before.{number_of}
use Rattle.cfg_lines.specs.Configs.{config_of}
use Rattle.cfg_parser.specs.declared.fault.Kind.TheVariants as kinds
use Rattle.cfg_parser.specs.declared.fault.CfgFault.{CfgFault}
use Rattle.cfg_parser.specs.declared.fault.CfgFault.TheVariants as faults
use Rattle.cfg_parser.specs.Text.{lines_at}
use Rattle.cfg_parser.specs.Looking.{◌>>=◌}

abbrev pub has_set : Model → List ℕ → Bool
has_set m reference = list_any (λ (s : DataSet). bytes_eq reference (reference_of s.domain s.item)) m.sets

abbrev pub is_at : List ℕ → Node → Bool
is_at reference n = bytes_eq reference (reference_of n.domain n.item)

abbrev pub has_node : Model → List ℕ → Bool
has_node m reference = list_any (is_at reference) m.nodes

-- a node that a data set may have
abbrev pub may_have : Model → List ℕ → Bool
may_have m reference = list_any (λ n. is_at reference n && n.allowed) m.nodes

-- A line that names a data set or a node, by the model: kind 9 (Unknown) where none is there, kind 12 (Member) where a data
-- set may not have the node.
abbrev pub look_by : Model → ℕ → Line → Result (Unit {0}) CfgFault
look_by m number (lines.Brcb block) = if (length block.dat_set == 0) || has_set m block.dat_set then Ok tt else Err (faults.Refused number kinds.Unknown)
look_by m number (lines.Member reference) =
    if may_have m reference then Ok tt
    else if has_node m reference then Err (faults.Refused number kinds.Member)
    else Err (faults.Refused number kinds.Unknown)
look_by m number line = Ok tt

-- lines by the model, the first of them first
abbrev pub looked_by : Model → List Line → Result (Unit {0}) CfgFault
looked_by m [] = Ok tt
looked_by m (line ∷ before) = looked_by m before >>= λ _. look_by m (number_of before) line

-- the configuration of a text, or the first line that is refused; what lines name is looked up in the model that they make
abbrev pub config_by : List ℕ → Result Config CfgFault
config_by text = do
  told ← lines_at text
  found ← looked_by (configured_model (config_of told)) told
  Ok (config_of told)
