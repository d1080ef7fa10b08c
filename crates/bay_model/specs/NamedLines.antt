-- The lines of a configuration with the items that each names (IEC 61850-8-1, the names of data attributes; IEC 61850-7-2,
-- functional constraints). Attributes are numbered from 0: first those that have a line of their own, then the CF attributes
-- of the controls, then the SE twins of the SG attributes.
use Rattle.std.specs.Prelude.{ℕ, ◌+◌, Bool, nat_le, List, [], ◌∷◌, ◌++◌, map, length, flat_map, position, unwrap_or, if◌then◌else◌, codes}
use Rattle.std.specs.List.{filter}
use Rattle.std.specs.Str.{bytes_eq}
use Rattle.sv_base.specs.declared.config.Config.{Config}
use Rattle.sv_base.specs.declared.config.LnDef.{LnDef}
use Rattle.sv_base.specs.declared.config.AttrDef.{AttrDef}
use Rattle.sv_base.specs.declared.config.BlockDef.{BlockDef}
use Rattle.sv_base.specs.declared.config.CtlDef.{CtlDef}
use Rattle.sv_base.specs.declared.config.SgDef.{SgDef}
use Rattle.bay_model.specs.Model.{attribute, several}
use Rattle.bay_model.specs.Configured.{domains_after}
use Rattle.bay_model.specs.Generated.{Named, within, end_named, structure_named, block_names, setting_names, control_names, Parameter, parameters, parameter_names}

-- a line, by its number, with the items of its domain that it names
pub record Line : Type 0 where
  pub line : ℕ
  pub domain : List ℕ
  pub names : List Named

abbrev pub is_setting : AttrDef → Bool
is_setting a = bytes_eq a.fc (codes "SG")

-- `LN$FC$PATH`
abbrev pub path_item : List ℕ → List ℕ → List ℕ → List ℕ
path_item ln fc path = within (within ln fc) path

-- an SG attribute, number x, is named under SE too, as number twin
abbrev pub attribute_names : ℕ → ℕ → AttrDef → List Named
attribute_names x twin a = end_named (path_item a.ln a.fc a.path) (attribute x) a.kind
    ∷ (if is_setting a then end_named (path_item a.ln (codes "SE") a.path) (attribute twin) a.kind ∷ [] else [])

abbrev pub attribute_line : ℕ → ℕ → AttrDef → Line
attribute_line x twin a = record { line = a.line; domain = a.domain; names = attribute_names x twin a }

abbrev pub attribute_lines : ℕ → ℕ → List AttrDef → List Line
attribute_lines x twin [] = []
attribute_lines x twin (a ∷ rest) = attribute_line x twin a ∷ attribute_lines (x + 1) (if is_setting a then twin + 1 else twin) rest

abbrev pub node_line : LnDef → Line
node_line n = record { line = n.line; domain = n.domain; names = structure_named n.ln several ∷ [] }

abbrev pub block_line : ℕ → BlockDef → Line
block_line b d = record { line = d.line; domain = d.domain; names = block_names b (path_item d.ln (codes "BR") d.name) }

abbrev pub block_lines : ℕ → List BlockDef → List Line
block_lines b [] = []
block_lines b (d ∷ rest) = block_line b d ∷ block_lines (b + 1) rest

-- a control's first CF attribute is number x
abbrev pub control_line : ℕ → ℕ → CtlDef → Line
control_line k x c = record { line = c.line; domain = c.domain; names = control_names k c (path_item c.ln (codes "CO") c.path) ++ parameter_names x (path_item c.ln (codes "CF") c.path) (parameters c) }

abbrev pub control_lines : ℕ → ℕ → List CtlDef → List Line
control_lines k x [] = []
control_lines k x (c ∷ rest) = control_line k x c ∷ control_lines (k + 1) (x + length (parameters c)) rest

-- the setting group block of domain d
abbrev pub group_line : ℕ → SgDef → Line
group_line d g = record { line = g.line; domain = g.domain; names = setting_names d }

abbrev pub domains : Config → List (List ℕ)
domains c = domains_after [] c.nodes

abbrev pub domain_number : Config → List ℕ → ℕ
domain_number c domain = unwrap_or (position (bytes_eq domain) (domains c)) 0

-- how many attributes have a line of their own, and how many there are before the twins
abbrev pub generated : Config → List Parameter
generated c = flat_map parameters c.controls

abbrev pub lines : Config → List Line
lines c = map node_line c.nodes
    ++ (attribute_lines 0 (length c.attrs + length (generated c)) c.attrs
    ++ (block_lines 0 c.blocks
    ++ (control_lines 0 (length c.attrs) c.controls
    ++ map (λ (g : SgDef). group_line (domain_number c g.domain) g) c.groups)))

-- in the order of their numbers
abbrev pub insert_line : Line → List Line → List Line
insert_line l [] = l ∷ []
insert_line l (m ∷ ms) = if nat_le l.line m.line then l ∷ m ∷ ms else m ∷ insert_line l ms

abbrev pub in_order : List Line → List Line
in_order [] = []
in_order (l ∷ ls) = insert_line l (in_order ls)

-- the items of a domain that its lines name, in the order of the lines
abbrev pub names_in : Config → List ℕ → List Named
names_in c domain = flat_map (λ (l : Line). l.names) (filter (λ (l : Line). bytes_eq l.domain domain) (in_order (lines c)))
