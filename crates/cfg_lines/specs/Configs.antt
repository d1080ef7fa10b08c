-- The configuration that lines make. The last line is the first of the list.
use Rattle.std.specs.Prelude.{ℕ, List, [], ◌∷◌, ◌++◌}
use Rattle.sv_base.specs.declared.config.Config.{Config}
use Rattle.sv_base.specs.declared.config.SetDef.{SetDef}
use Rattle.cfg_lines.specs.declared.line.Line.{Line}
use Rattle.cfg_lines.specs.declared.line.Line.TheVariants as lines

abbrev pub no_config : Config
no_config = record { vendor = []; model = []; revision = []; nodes = []; attrs = []; sets = []; blocks = []; controls = []; groups = [] }

-- the last data set has one more member
abbrev pub with_member : List SetDef → List ℕ → List SetDef
with_member [] reference = []
with_member (set ∷ []) reference = record set { members = set.members ++ reference ∷ [] } ∷ []
with_member (set ∷ next ∷ sets) reference = set ∷ with_member (next ∷ sets) reference

abbrev pub with_line : Line → Config → Config
with_line (lines.Server vendor model revision) c = record c { vendor = vendor; model = model; revision = revision }
with_line (lines.Ln node) c = record c { nodes = c.nodes ++ node ∷ [] }
with_line (lines.Attr attr) c = record c { attrs = c.attrs ++ attr ∷ [] }
with_line (lines.Set set) c = record c { sets = c.sets ++ set ∷ [] }
with_line (lines.Member reference) c = record c { sets = with_member c.sets reference }
with_line (lines.Brcb block) c = record c { blocks = c.blocks ++ block ∷ [] }
with_line (lines.Ctl control) c = record c { controls = c.controls ++ control ∷ [] }
with_line (lines.Sgcb groups) c = record c { groups = c.groups ++ groups ∷ [] }
with_line line c = c

abbrev pub config_of : List Line → Config
config_of [] = no_config
config_of (line ∷ before) = with_line line (config_of before)

-- the same from the first line on
abbrev pub config_on : Config → List Line → Config
config_on c [] = c
config_on c (line ∷ more) = config_on (with_line line c) more
