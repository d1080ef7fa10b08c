-- What lines name is looked up when all are there, in their order; and the configuration of a text.
use Rattle.std.specs.Prelude.{ℕ, ◌==◌, ◌||◌, List, [], ◌∷◌, length, Result, Ok, Err, if◌then◌else◌}
use Rattle.sv_base.specs.declared.config.Config.{Config}
use Rattle.cfg_parser.specs.declared.fault.Kind.TheVariants as kinds
use Rattle.cfg_parser.specs.declared.fault.CfgFault.{CfgFault}
use Rattle.cfg_parser.specs.declared.fault.CfgFault.TheVariants as faults
use Rattle.cfg_lines.specs.declared.line.Line.{Line}
use Rattle.cfg_lines.specs.declared.line.Line.TheVariants as lines
use Rattle.cfg_lines.specs.Keys.{is_among}
use Rattle.cfg_lines.specs.Before.{number_of}
use Rattle.cfg_lines.specs.Claims.{sets}
use Rattle.cfg_lines.specs.Nodes.{is_node, is_member_node}
use Rattle.cfg_lines.specs.Configs.{config_of}
use Rattle.cfg_parser.specs.Text.{lines_at}

-- a line that names a data set or a node, among all lines
unfoldable pub look_at : List Line → ℕ → Line → Result (Unit {0}) CfgFault
look_at all number (lines.Brcb block) = if (length block.dat_set == 0) || is_among (sets all) block.dat_set then Ok tt else Err (faults.Refused number kinds.Unknown)
look_at all number (lines.Member reference) =
    if is_node all reference then (if is_member_node all reference then Ok tt else Err (faults.Refused number kinds.Member))
    else Err (faults.Refused number kinds.Unknown)
look_at all number line = Ok tt

infixl 10 ◌>>=◌
abbrev pub ◌>>=◌ : {A B : Type 0} → Result A CfgFault → (A → Result B CfgFault) → Result B CfgFault
(Ok x) >>= f = f x
(Err fault) >>= f = Err fault

-- lines among all, the first of them first
abbrev pub looked_at : List Line → List Line → Result (Unit {0}) CfgFault
looked_at all [] = Ok tt
looked_at all (line ∷ before) = looked_at all before >>= λ _. look_at all (number_of before) line

-- the configuration of a text, or the first line that is refused
unfoldable pub config_at : List ℕ → Result Config CfgFault
config_at text = do
  told ← lines_at text
  found ← looked_at told told
  Ok (config_of told)
