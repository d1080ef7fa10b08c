-- The text that is written for a configuration.
use Rattle.std.specs.Prelude.{ℕ, nat_le, List, [], ◌∷◌, ◌++◌, map, if◌then◌else◌}
use Rattle.std.specs.List.{flat_map}
use Rattle.std.specs.Str.{bytes_eq}
use Rattle.sv_base.specs.declared.config.Config.{Config}
use Rattle.cfg_lines.specs.declared.line.Line.{Line}
use Rattle.cfg_lines.specs.declared.line.Line.TheVariants as lines
use Rattle.cfg_lines.specs.Spelled.{spelled}

-- the number of the line of an object
abbrev pub number : Line → ℕ
number (lines.Ln node) = node.line
number (lines.Attr attr) = attr.line
number (lines.Set set) = set.line
number (lines.Brcb block) = block.line
number (lines.Ctl control) = control.line
number (lines.Sgcb groups) = groups.line
number _ = 0

-- the domain of an object
abbrev pub domain : Line → List ℕ
domain (lines.Ln node) = node.domain
domain (lines.Attr attr) = attr.domain
domain (lines.Set set) = set.domain
domain (lines.Brcb block) = block.domain
domain (lines.Ctl control) = control.domain
domain (lines.Sgcb groups) = groups.domain
domain _ = []

-- the lines of the objects
abbrev pub objects : Config → List Line
objects c = map lines.Ln c.nodes ++ (map lines.Attr c.attrs ++ (map lines.Set c.sets ++ (map lines.Brcb c.blocks ++ (map lines.Ctl c.controls ++ map lines.Sgcb c.groups))))

-- in the order of their numbers
abbrev pub put_in : Line → List Line → List Line
put_in line [] = line ∷ []
put_in line (next ∷ more) = if nat_le (number line) (number next) then line ∷ next ∷ more else next ∷ put_in line more

abbrev pub in_order : List Line → List Line
in_order [] = []
in_order (line ∷ more) = put_in line (in_order more)

-- a data set's members stand after it
abbrev pub with_members : Line → List Line
with_members (lines.Set set) = lines.Set (record set { members = [] }) ∷ map lines.Member set.members
with_members line = line ∷ []

-- where the domain changes there is an `ld` before
abbrev pub heading : List ℕ → List ℕ → List Line
heading before name = if bytes_eq before name then [] else lines.Ld name ∷ []

abbrev pub with_domains : List ℕ → List Line → List Line
with_domains before [] = []
with_domains before (line ∷ more) = heading before (domain line) ++ (with_members line ++ with_domains (domain line) more)

-- all lines of a configuration
abbrev pub lines_of : Config → List Line
lines_of c = lines.Config ∷ lines.Server c.vendor c.model c.revision ∷ with_domains [] (in_order (objects c)) ++ lines.End ∷ []

-- each line and a newline
abbrev pub line_text : Line → List ℕ
line_text line = spelled line ++ 10 ∷ []

abbrev pub text_of : List Line → List ℕ
text_of told = flat_map line_text told

unfoldable pub written : Config → List ℕ
written c = text_of (lines_of c)
