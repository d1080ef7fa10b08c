-- A model may be read by several threads, since each of its parts may.
use denote.Param.Send.{IsSync, sendable}
use Rattle.std.proofs.Crossing.{crosses}
use Rattle.sv_base.proofs.types.Parts.TheLaws.TheKnot as types
use Rattle.sv_base.proofs.value.Values.TheLaws.TheKnot as values
use Rattle.sv_base.proofs.octs.Octs.TheSendSync as octs
use Rattle.sv_base.proofs.short.ShortOcts.TheSendSync as short
use Rattle.sv_base.proofs.shared.SharedOcts.TheSendSync as shared
use Rattle.sv_base.proofs.config.LnDef.TheSendSync as node_def
use Rattle.sv_base.proofs.config.SetDef.TheSendSync as set_def
use Rattle.sv_base.proofs.config.BlockDef.TheSendSync as block_def
use Rattle.sv_base.proofs.config.SgDef.TheSendSync as group_def
use Rattle.sv_base.specs.contracts.types.TypeOf as TypeOf
use Rattle.sv_base.proofs.few.Few.TheSendSync as few
use Rattle.sv_base.proofs.list.List.TheSendSync as list
use Rattle.sv_base.specs.contracts.value.Value as Value
use Rattle.sv_base.specs.contracts.first_values.FirstValues as FirstValues
use Rattle.sv_base.specs.contracts.config.AttrDef as AttrDef
use Rattle.sv_base.specs.contracts.config.CtlDef as CtlDef
use Rattle.sv_base.specs.contracts.config.Config as Config
use Rattle.bay_model.proofs.tables.AttrIds.TheSendSync as ids
use Rattle.bay_model.proofs.tables.SetRow.TheSendSync as set_row
use Rattle.bay_model.specs.contracts.tables.MemberShape as MemberShape
use Rattle.bay_model.specs.contracts.tables.NodeRow as NodeRow
use Rattle.bay_model.specs.contracts.tables.AttrRow as AttrRow
use Rattle.octet_rows.proofs.index.Index.TheSendSync as indexes
use Rattle.name_tree.specs.contracts.directories.Directory as Directory
use Rattle.name_tree.specs.contracts.directories.NodeName as NodeName
use Rattle.name_tree.specs.contracts.stands.Stand as Stand
use Rattle.name_leaves.specs.contracts.leaves.Leaf as Leaf
use Rattle.object_model.specs.contracts.tables.Tables as Tables
use Rattle.object_model.specs.contracts.model.Model as Model

kind_field_sync : IsSync TypeOf.the_field.row
kind_field_sync = search (crosses, types.crosses, sendable) depth 60

pub kind_sync : IsSync TypeOf.the_row
kind_sync = search (kind_field_sync, sendable)

value_sync : IsSync Value.the_row
value_sync = search (crosses, values.crosses, sendable) depth 60

values_sync : IsSync FirstValues.the_row
values_sync = search (value_sync, few.the_sync, sendable) depth 60

-- what a configuration is made of
attr_field_sync : IsSync AttrDef.the_field.row
attr_field_sync = search (kind_field_sync, values_sync, short.the_sync, shared.the_sync, sendable) depth 60

attr_sync : IsSync AttrDef.the_row
attr_sync = search (attr_field_sync, sendable)

control_sync : IsSync CtlDef.the_row
control_sync = search (kind_field_sync, octs.the_sync, sendable) depth 60

config_field_sync : IsSync Config.the_field.row
config_field_sync = search (list.the_sync, attr_sync, control_sync, octs.the_sync, node_def.the_sync, set_def.the_sync, block_def.the_sync, group_def.the_sync, sendable) depth 60

pub config_sync : IsSync Config.the_row
config_sync = search (config_field_sync, sendable)

-- the tables of the nodes
shape_field_sync : IsSync MemberShape.the_field.row
shape_field_sync = search (kind_field_sync, ids.the_sync, sendable) depth 60

pub shape_sync : IsSync MemberShape.the_row
shape_sync = search (shape_field_sync, sendable)

node_sync : IsSync NodeRow.the_row
node_sync = search (shape_field_sync, sendable) depth 60

directory_sync : IsSync Directory.the_row
directory_sync = search (indexes.the_sync, crosses, sendable) depth 60

name_sync : IsSync NodeName.the_row
name_sync = search (sendable) depth 60

stand_sync : IsSync Stand.the_row
stand_sync = search (sendable) depth 60

leaf_sync : IsSync Leaf.the_row
leaf_sync = search (sendable) depth 60

tables_field_sync : IsSync Tables.the_field.row
tables_field_sync = search (list.the_sync, stand_sync, leaf_sync, node_sync, indexes.the_sync, directory_sync, name_sync, set_row.the_sync, crosses, sendable) depth 60

attr_row_sync : IsSync AttrRow.the_row
attr_row_sync = search (kind_field_sync, sendable) depth 60

pub model_sync : IsSync Model.the_row
model_sync = search (config_field_sync, tables_field_sync, indexes.the_sync, attr_row_sync, crosses, sendable) depth 60
