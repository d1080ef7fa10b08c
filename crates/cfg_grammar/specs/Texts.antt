-- A configuration as a text: its lines one after another, and what they make.
use Rattle.std.specs.Prelude.{◌≡◌, ◌⊎◌, ℕ, true, List, [], ◌∷◌, ◌++◌}
use Rattle.sv_base.specs.declared.config.Config.{Config}
use Rattle.cfg_lines.specs.Keys.{is_among}
use Rattle.cfg_lines.specs.Before.{place_of}
use Rattle.cfg_lines.specs.Claims.{sets}
use Rattle.cfg_lines.specs.Nodes.{is_node, is_member_node}
use Rattle.cfg_lines.specs.Configs.{config_of}
use Rattle.cfg_grammar.specs.Follows.{IsLine}
use Rattle.cfg_lines.specs.declared.line.Line.{Line}
use Rattle.cfg_lines.specs.declared.line.Line.TheVariants as lines
use Rattle.cfg_lines.specs.declared.line.Place.TheVariants as places

-- Each line ends with a newline. The last line is the first of the list.
abbrev pub AreLines : List ℕ → List Line → Type 0
AreLines text [] = text ≡ []
AreLines text (line ∷ before) = (front last : List ℕ) × (text ≡ front ++ (last ++ 10 ∷ [])) × AreLines front before × IsLine before last line

-- what a line names is there: a data set, and a node that a data set may have
abbrev pub IsFound : List Line → Line → Type 0
IsFound all (lines.Brcb block) = (block.dat_set ≡ []) ⊎ (is_among (sets all) block.dat_set ≡ true)
IsFound all (lines.Member reference) = (is_node all reference ≡ true) × (is_member_node all reference ≡ true)
IsFound all line = Unit {0}

abbrev pub AreFound : List Line → List Line → Type 0
AreFound all [] = Unit {0}
AreFound all (line ∷ before) = AreFound all before × IsFound all line

-- the text spells the configuration
pub record SpellsConfig (text : List ℕ) (config : Config) : Type 0 where
  pub told : List Line
  pub are : AreLines text told
  pub ended : place_of told ≡ places.Ended
  pub found : AreFound told told
  pub makes : config ≡ config_of told
