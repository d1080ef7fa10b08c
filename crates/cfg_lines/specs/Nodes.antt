-- The nodes that lines make (IEC 61850-8-1, named variables), and which of them a data set may have. The last line is the
-- first of the list.
use Rattle.std.specs.Prelude.{ℕ, ◌&&◌, ◌||◌, not, nat_lt, Bool, List, [], ◌∷◌, ◌++◌, map, codes, if◌then◌else◌}
use Rattle.std.specs.List.{list_any}
use Rattle.std.specs.Str.{bytes_eq}
use Rattle.sv_base.specs.declared.config.AttrDef.{AttrDef}
use Rattle.sv_base.specs.declared.parameters.CtlParameter.TheVariants.{SboTimeout, SboClass}
use Rattle.sv_base.specs.Parameters.{parameter_name, parameter_kind}
use Rattle.sv_base.specs.ComponentTable.{components, comp_name, setting_components, setting_comp_name}
use Rattle.sv_base.specs.CallParts.{cancel_parts, command_parts, part_name}
use Rattle.sv_base.specs.declared.ctl_services.CtlService.TheVariants as services
use Rattle.sv_base.specs.CtlServices.{service_name}
use Rattle.cfg_lines.specs.Keys.{is_among}
use Rattle.cfg_lines.specs.Paths.{below, item_key, above}
use Rattle.cfg_lines.specs.Claims.{operations, settings, group_key}
use Rattle.cfg_lines.specs.Sizes.{most_octets, leaf_octets, children, octets_of}
use Rattle.cfg_lines.specs.declared.leaf.Leaf.{Leaf}
use Rattle.cfg_lines.specs.declared.line.Line.{Line}
use Rattle.cfg_lines.specs.declared.line.Line.TheVariants as lines

-- a setting of a control under CF; ctlModel is of sboClass's type
abbrev pub setting_octets : List ℕ → ℕ
setting_octets name = if bytes_eq name (parameter_name SboTimeout) then most_octets (parameter_kind SboTimeout) else most_octets (parameter_kind SboClass)

abbrev pub setting_leaf : List ℕ → List ℕ → Leaf
setting_leaf front part = record { name = below front part; octets = setting_octets part }

-- what may be in a data set: attributes, and the settings of controls
abbrev pub leaves_by : Line → List Leaf
leaves_by (lines.Attr attr) = record { name = item_key attr.domain attr.ln attr.fc attr.path; octets = most_octets attr.kind } ∷ []
leaves_by (lines.Ctl control) = map (setting_leaf (item_key control.domain control.ln (codes "CF") control.path)) (settings control.model)
leaves_by line = []

abbrev pub leaves : List Line → List Leaf
leaves [] = []
leaves (line ∷ before) = leaves before ++ leaves_by line

-- the components of a report control block, of a setting group control block, and of a part of a control
abbrev pub block_parts : List (List ℕ)
block_parts = map comp_name components

abbrev pub group_parts : List (List ℕ)
group_parts = map setting_comp_name setting_components

abbrev pub operation_parts : List ℕ → List (List ℕ)
operation_parts name = if bytes_eq name (service_name services.Sbo) then [] else map part_name (if bytes_eq name (service_name services.Cancel) then cancel_parts else command_parts)

abbrev pub all_below : List ℕ → List (List ℕ) → List (List ℕ)
all_below front parts = map (λ part. below front part) parts

-- a node and its parts
abbrev pub with_parts : List ℕ → List (List ℕ) → List (List ℕ)
with_parts node parts = node ∷ all_below node parts

abbrev pub operations_below : List ℕ → List (List ℕ) → List (List ℕ)
operations_below front [] = []
operations_below front (name ∷ names) = with_parts (below front name) (operation_parts name) ++ operations_below front names

-- what edits an attribute under SG
abbrev pub twins : AttrDef → List (List ℕ)
twins attr = if bytes_eq attr.fc (codes "SG") then item_key attr.domain attr.ln (codes "SE") attr.path ∷ [] else []

-- The nodes that no data set may have: report control blocks, setting group control blocks, controls and edited values, with
-- their parts.
abbrev pub closed_by : Line → List (List ℕ)
closed_by (lines.Attr attr) = twins attr
closed_by (lines.Brcb block) = with_parts (item_key block.domain block.ln (codes "BR") block.name) block_parts
closed_by (lines.Ctl control) = operations_below (item_key control.domain control.ln (codes "CO") control.path) (operations control.model)
closed_by (lines.Sgcb groups) = with_parts (group_key groups.domain (codes "LLN0")) group_parts
closed_by line = []

abbrev pub closed : List Line → List (List ℕ)
closed [] = []
closed (line ∷ before) = closed before ++ closed_by line

-- one of these is the node, or lies below it
abbrev pub reaches : List (List ℕ) → List ℕ → Bool
reaches names node = list_any (λ name. bytes_eq node name || is_among (above name) node) names

abbrev pub leaf_names : List Line → List (List ℕ)
leaf_names all = map (λ leaf. leaf.name) (leaves all)

abbrev pub is_node : List Line → List ℕ → Bool
is_node all node = reaches (leaf_names all) node || reaches (closed all) node

-- a node that a data set may have
abbrev pub is_member_node : List Line → List ℕ → Bool
is_member_node all node = not (reaches (closed all) node) && not (nat_lt 500 (octets_of 10 (leaf_octets (leaves all)) (children (leaf_names all)) node))
