-- What the lines before a line say of it. The last line is the first of the list.
use Rattle.std.specs.Prelude.{ℕ, ◌+◌, Bool, true, false, List, [], ◌∷◌, length, codes, if◌then◌else◌}
use Rattle.std.specs.Str.{bytes_eq}
use Rattle.cfg_lines.specs.declared.line.Line.{Line}
use Rattle.cfg_lines.specs.declared.line.Line.TheVariants as lines
use Rattle.cfg_lines.specs.declared.line.Place.{Place}
use Rattle.cfg_lines.specs.declared.line.Place.TheVariants as places

-- the number of the line after these
abbrev pub number_of : List Line → ℕ
number_of before = length before + 1

-- where the line after these stands, by the last that isn't skipped
abbrev pub place_of : List Line → Place
place_of [] = places.Start
place_of (lines.Skip ∷ before) = place_of before
place_of (lines.Config ∷ before) = places.Configured
place_of (lines.Server v m r ∷ before) = places.Served
place_of (lines.Ld name ∷ before) = places.InDomain
place_of (lines.Set set ∷ before) = places.InSet
place_of (lines.Member reference ∷ before) = places.InMembers
place_of (lines.End ∷ before) = places.Ended
place_of (line ∷ before) = places.InNode

-- the name of the domain, that of the last `ld`
abbrev pub domain_of : List Line → List ℕ
domain_of [] = []
domain_of (lines.Ld name ∷ before) = name
domain_of (line ∷ before) = domain_of before

-- the name of the logical node, that of the last `ln` of the domain; empty where there is none
abbrev pub node_of : List Line → List ℕ
node_of [] = []
node_of (lines.Ld name ∷ before) = []
node_of (lines.Ln node ∷ before) = node.ln
node_of (line ∷ before) = node_of before

-- how many setting groups the domain has; 0 where it has no `sgcb`
abbrev pub groups_of : List Line → ℕ
groups_of [] = 0
groups_of (lines.Ld name ∷ before) = 0
groups_of (lines.Sgcb groups ∷ before) = groups.count
groups_of (line ∷ before) = groups_of before

-- the domain has an attribute under SG
abbrev pub has_settings : List Line → Bool
has_settings [] = false
has_settings (lines.Ld name ∷ before) = false
has_settings (lines.Attr attr ∷ before) = if bytes_eq attr.fc (codes "SG") then true else has_settings before
has_settings (line ∷ before) = has_settings before

-- how many lines of each kind there are
abbrev pub domains : List Line → ℕ
domains [] = 0
domains (lines.Ld name ∷ before) = domains before + 1
domains (line ∷ before) = domains before

abbrev pub nodes : List Line → ℕ
nodes [] = 0
nodes (lines.Ln node ∷ before) = nodes before + 1
nodes (line ∷ before) = nodes before

abbrev pub attributes : List Line → ℕ
attributes [] = 0
attributes (lines.Attr attr ∷ before) = attributes before + 1
attributes (line ∷ before) = attributes before

abbrev pub sets : List Line → ℕ
sets [] = 0
sets (lines.Set set ∷ before) = sets before + 1
sets (line ∷ before) = sets before

abbrev pub blocks : List Line → ℕ
blocks [] = 0
blocks (lines.Brcb block ∷ before) = blocks before + 1
blocks (line ∷ before) = blocks before

abbrev pub controls : List Line → ℕ
controls [] = 0
controls (lines.Ctl control ∷ before) = controls before + 1
controls (line ∷ before) = controls before

-- how many members the last data set has
abbrev pub members : List Line → ℕ
members [] = 0
members (lines.Set set ∷ before) = 0
members (lines.Member reference ∷ before) = members before + 1
members (line ∷ before) = members before
