-- Which line may stand after others. The last line is the first of the list; an object has the number, the domain and the
-- logical node of its place.
use Rattle.std.specs.Prelude.{◌≡◌, ◌≤◌, ◌<◌, ◌⊎◌, ℕ, ◌==◌, true, false, List, [], length, codes, if◌then◌else◌}
use Rattle.std.specs.List.{list_all, list_any, count_by}
use Rattle.std.specs.Str.{bytes_eq}
use Rattle.sv_base.specs.Same.{values_of}
use Rattle.sv_base.specs.ComponentTable.{comp_name}
use Rattle.sv_base.specs.declared.components.Comp.TheVariants as comps
use Rattle.sv_base.specs.declared.config.LnDef.{LnDef}
use Rattle.sv_base.specs.declared.config.AttrDef.{AttrDef}
use Rattle.sv_base.specs.declared.config.SetDef.{SetDef}
use Rattle.sv_base.specs.declared.config.BlockDef.{BlockDef}
use Rattle.sv_base.specs.declared.config.CtlDef.{CtlDef}
use Rattle.sv_base.specs.declared.config.SgDef.{SgDef}
use Rattle.sv_base.specs.declared.types.TypeOf.TheVariants as types
use Rattle.text_words.specs.Names.{is_name, is_path, is_member, is_dollar, item_of}
use Rattle.text_words.specs.Values.{is_graphic}
use Rattle.text_words.specs.Names.{is_fc}
use Rattle.cfg_lines.specs.Keys.{is_among}
use Rattle.cfg_lines.specs.Paths.{below, node_key, item_key, is_taken}
use Rattle.cfg_lines.specs.Before.{number_of, place_of, domain_of, node_of, groups_of, has_settings, domains, nodes, attributes, sets, blocks, controls, members}
use Rattle.cfg_lines.specs.Claims.{heads, set_key, control_keys, group_key, claims}
use Rattle.cfg_lines.specs.Claims as claimed
use Rattle.text_words.specs.Grammar.{IsType, AreOfType}
use Rattle.cfg_grammar.specs.Grammar.{Spells}
use Rattle.cfg_lines.specs.declared.line.Line.{Line}
use Rattle.cfg_lines.specs.declared.line.Line.TheVariants as lines
use Rattle.cfg_lines.specs.declared.line.Place.TheVariants as places
use Rattle.sv_base.specs.declared.ctl_models.TheConstants.{SBO_NORMAL, SBO_ENHANCED}

-- in a logical node, but not after a `set` without a member
abbrev pub IsInNode : List Line → Type 0
IsInNode before = (place_of before ≡ places.InNode) ⊎ (place_of before ≡ places.InMembers)

-- each domain has a logical node
abbrev pub IsBetween : List Line → Type 0
IsBetween before = (place_of before ≡ places.Served) ⊎ IsInNode before

abbrev pub IsInDomain : List Line → Type 0
IsInDomain before = (place_of before ≡ places.InDomain) ⊎ IsInNode before

abbrev pub IsInSet : List Line → Type 0
IsInSet before = (place_of before ≡ places.InSet) ⊎ (place_of before ≡ places.InMembers)

-- a word of `server`
abbrev pub IsIdentity : List ℕ → Type 0
IsIdentity word = (1 ≤ length word) × (length word ≤ 64) × (list_all is_graphic word ≡ true)

-- at most eight names joined by `$`
abbrev pub IsPath : List ℕ → Type 0
IsPath path = (is_path path ≡ true) × (count_by is_dollar path ≤ 7)

-- an item name (IEC 61850-8-1, ItemID), of at most 64 octets
abbrev pub IsItem : List ℕ → List ℕ → List ℕ → Type 0
IsItem node fc path = length (below (below node fc) path) ≤ 64

-- one value, and under SG one for each group
abbrev pub value_count : List Line → List ℕ → ℕ
value_count before fc = if bytes_eq fc (codes "SG") then groups_of before else 1

pub record IsNode (before : List Line) (node : LnDef) : Type 0 where
  pub here : node ≡ record node { line = number_of before; domain = domain_of before }
  pub stands : IsInDomain before
  pub few : nodes before < 256
  pub name : is_name node.ln ≡ true
  pub new : is_among (heads before) (node_key (domain_of before) node.ln) ≡ false

pub record IsAttribute (before : List Line) (attr : AttrDef) : Type 0 where
  pub here : attr ≡ record attr { line = number_of before; domain = domain_of before; ln = node_of before }
  pub stands : IsInNode before
  pub few : attributes before < 10000
  pub constraint : is_fc attr.fc ≡ true
  pub path : IsPath attr.path
  pub short : IsItem (node_of before) attr.fc attr.path
  pub new : is_taken (claims before) (item_key (domain_of before) (node_of before) attr.fc attr.path) ≡ false
  pub type_ : IsType attr.kind
  pub values : AreOfType attr.kind (values_of attr.values)
  pub count : (1 ≤ value_count before attr.fc) × (length (values_of attr.values) ≡ value_count before attr.fc)

-- a data set that has no member yet
pub record IsSet (before : List Line) (set : SetDef) : Type 0 where
  pub here : set ≡ record { line = number_of before; domain = domain_of before; ln = node_of before; name = set.name; members = [] }
  pub stands : IsInNode before
  pub few : sets before < 128
  pub name : is_name set.name ≡ true
  pub short : length (below (node_of before) set.name) ≤ 64
  pub new : is_among (claimed.sets before) (set_key (domain_of before) (node_of before) set.name) ≡ false

-- a domain and an item name: a logical node, a functional constraint and at most eight names
pub record IsMember (before : List Line) (reference : List ℕ) : Type 0 where
  pub stands : IsInSet before
  pub few : members before < 256
  pub name : is_member reference ≡ true
  pub names : count_by is_dollar (item_of reference) ≤ 9
  pub short : (length reference ≤ 129) × (length (item_of reference) ≤ 64)

pub record IsBlock (before : List Line) (block : BlockDef) : Type 0 where
  pub here : block ≡ record block { line = number_of before; domain = domain_of before; ln = node_of before }
  pub stands : IsInNode before
  pub few : blocks before < 32
  pub name : is_name block.name ≡ true
  pub short : IsItem (node_of before) (codes "BR") (below block.name (comp_name comps.TimeofEntry))
  pub new : is_taken (claims before) (item_key (domain_of before) (node_of before) (codes "BR") block.name) ≡ false
  pub rpt_id : (length block.rpt_id ≤ 129) × (list_all is_graphic block.rpt_id ≡ true)
  pub dat_set : list_all is_graphic block.dat_set ≡ true
  pub bits : (length block.opt_flds ≡ 10) × (length block.trg_ops ≡ 6)
  pub conf_rev : (1 ≤ block.conf_rev) × (block.conf_rev ≤ 4294967295)
  pub times : (block.buf_tm ≤ 4294967295) × (block.intg_pd ≤ 4294967295)
  pub capacity : (1 ≤ block.capacity) × (block.capacity ≤ 1048576)

-- the longest name that a control has below its path
abbrev pub longest_part : ℕ → List ℕ
longest_part model = if model == SBO_NORMAL then codes "Cancel$origin$orIdent" else if model == SBO_ENHANCED then codes "Cancel$origin$orIdent" else codes "Oper$origin$orIdent"

pub record IsControl (before : List Line) (control : CtlDef) : Type 0 where
  pub here : control ≡ record control { line = number_of before; domain = domain_of before; ln = node_of before }
  pub stands : IsInNode before
  pub few : controls before < 64
  pub path : IsPath control.path
  pub short : IsItem (node_of before) (codes "CO") (below control.path (longest_part control.model))
  pub new : list_any (λ key. is_taken (claims before) key) (control_keys (domain_of before) (node_of before) control.path control.model) ≡ false
  pub model : control.model ≤ 4
  pub timeout : (1 ≤ control.timeout) × (control.timeout ≤ 4294967295)
  pub class : control.class ≤ 1
  pub type_ : (control.kind ≡ types.Bool) ⊎ (control.kind ≡ types.Int 32)

-- one for a domain, in its LLN0 and before its attributes under SG
pub record IsGroups (before : List Line) (groups : SgDef) : Type 0 where
  pub here : groups ≡ record groups { line = number_of before; domain = domain_of before }
  pub stands : IsInNode before × (node_of before ≡ codes "LLN0")
  pub early : has_settings before ≡ false
  pub new : is_taken (claims before) (group_key (domain_of before) (codes "LLN0")) ≡ false
  pub count : (1 ≤ groups.count) × (groups.count ≤ 16)
  pub active : (1 ≤ groups.active) × (groups.active ≤ groups.count)

abbrev pub Follows : List Line → Line → Type 0
Follows before lines.Skip = Unit {0}
Follows before lines.Config = place_of before ≡ places.Start
Follows before (lines.Server vendor model revision) = (place_of before ≡ places.Configured) × IsIdentity vendor × IsIdentity model × IsIdentity revision
Follows before (lines.Ld name) = IsBetween before × (domains before < 16) × (is_name name ≡ true) × (is_among (heads before) name ≡ false)
Follows before (lines.Ln node) = IsNode before node
Follows before (lines.Attr attr) = IsAttribute before attr
Follows before (lines.Set set) = IsSet before set
Follows before (lines.Member reference) = IsMember before reference
Follows before (lines.Brcb block) = IsBlock before block
Follows before (lines.Ctl control) = IsControl before control
Follows before (lines.Sgcb groups) = IsGroups before groups
Follows before lines.End = IsBetween before

-- a line that says this, after those before it
pub record IsLine (before : List Line) (text : List ℕ) (line : Line) : Type 0 where
  pub short : length text ≤ 1000
  pub room : length before < 20000
  pub spelled : Spells text line
  pub follows : Follows before line
