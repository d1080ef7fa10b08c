-- What the leaves of nodes and whole nodes read as, by what is lent of a bay.
use Rattle.std.specs.Prelude.{ℕ, ◌-◌, nat_le, nat_lt, List, length, Option, None, Some, Result, Ok, Err, slice_get, if◌then◌else◌}
use Rattle.sv_base.specs.declared.value.Value.{Value}
use Rattle.sv_base.specs.declared.components.Comp.{Comp}
use Rattle.bay_model.specs.declared.request.Target.{Target}
use Rattle.bay_model.specs.declared.request.Target.TheVariants as targets
use Rattle.bay_model.specs.Lookups.{node_of}
use Rattle.bay_model.specs.Model.{Leaf, attribute, component, setting, withheld}
use Rattle.bay_model.specs.Named.{configured_model}
use Rattle.node_reads.specs.Reading.{read_by, leaf_read}
use Rattle.bay_rooms.specs.Slots.{Held}
use Rattle.setting_groups.specs.Grouped.{Grouped, copy_in, domain_at}
use Rattle.setting_groups.specs.Parts.{part_read}
use Rattle.value_store.specs.Stored as store
use Rattle.value_store.specs.Stored.{Stored}
use Rattle.report_block.specs.declared.block.ReportBlock.{ReportBlock}
use Rattle.report_block.specs.Reading.{reading}
use Rattle.bay_replies.specs.declared.replies.Replies.{Replies}
use Rattle.bay_model.specs.declared.access_errors.TheConstants.{TEMPORARILY_UNAVAILABLE, OBJECT_ACCESS_DENIED, OBJECT_ACCESS_UNSUPPORTED, OBJECT_NON_EXISTENT}

-- what the edit copy holds, while somebody holds the edit
abbrev pub copy_read : Option Held → Result Value ℕ
copy_read None = Err TEMPORARILY_UNAVAILABLE
copy_read (Some h) = Ok h.value

-- The attribute of a line has its value, and so has one that a control generates; the edit copies, as many as there are settings, stand
-- after these.
abbrev pub copies_from : List Stored → Grouped → ℕ
copies_from stored groups = length stored - length groups.settings

abbrev pub attribute_read : List Stored → Grouped → ℕ → Result Value ℕ
attribute_read stored groups x =
    if nat_le (copies_from stored groups) x then copy_read (copy_in groups (x - copies_from stored groups))
    else if nat_lt x (length stored) then Ok (store.attribute stored x).held.value else Err TEMPORARILY_UNAVAILABLE

abbrev pub component_read : (was now : ℕ) → Comp → Option ReportBlock → Result Value ℕ
component_read was now comp None = Err OBJECT_ACCESS_DENIED
component_read was now comp (Some part) = Ok (reading was now comp part)

abbrev pub leaf_by : List Stored → Grouped → List ReportBlock → (was now : ℕ) → Leaf → Result Value ℕ
leaf_by stored groups parts was now (attribute x) = attribute_read stored groups x
leaf_by stored groups parts was now (component b comp) = component_read was now comp (slice_get parts b)
leaf_by stored groups parts was now (setting d part) = Ok (part_read (domain_at groups d) part)
leaf_by stored groups parts was now withheld = Err OBJECT_ACCESS_DENIED

-- of what is lent
abbrev pub given_by : Replies → Leaf → Result Value ℕ
given_by r l = leaf_by r.store.now r.groups.now r.blocks.now r.was r.now l

abbrev pub node_read : Replies → ℕ → Result Value ℕ
node_read r n = read_by (leaf_read (given_by r)) (node_of (configured_model r.model.now) n).tree

-- a name that no node has, and one with alternate access, have codes of their own
abbrev pub target_read : Replies → Target → Result Value ℕ
target_read r (targets.Node n name) = node_read r n.0
target_read r (targets.Missing name) = Err OBJECT_NON_EXISTENT
target_read r (targets.Alternate name) = Err OBJECT_ACCESS_UNSUPPORTED
