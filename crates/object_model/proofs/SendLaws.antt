-- A model may go to another thread, since each of its parts may.
use denote.Param.Send.{IsSend, sendable}
use Rattle.std.proofs.Crossing.{crosses}
use Rattle.sv_base.proofs.types.Parts.TheLaws.TheKnot as types
use Rattle.sv_base.proofs.value.Values.TheLaws.TheKnot as values
use Rattle.sv_base.proofs.octs.Octs.TheSendSync as octs
use Rattle.sv_base.proofs.short.ShortOcts.TheSendSync as short
use Rattle.sv_base.proofs.shared.SharedOcts.TheSendSync as shared
use Rattle.sv_base.proofs.config.LnDef.TheSendSync as node_def
use Rattle.sv_base.proofs.config.SetDef.TheSendSync as set_def
use Rattle.sv_base.proofs.config.BlockDef.TheSendSync as block_def
use Rattle.sv_base.proofs.config.SgDef.TheSendSync as group_def
use Rattle.sv_base.specs.contracts.types.TypeOf as TypeOf
use Rattle.sv_base.proofs.few.Few.TheSendSync as few
use Rattle.sv_base.proofs.list.List.TheSendSync as list
use Rattle.sv_base.specs.contracts.value.Value as Value
use Rattle.sv_base.specs.contracts.first_values.FirstValues as FirstValues
use Rattle.sv_base.specs.contracts.config.AttrDef as AttrDef
use Rattle.sv_base.specs.contracts.config.CtlDef as CtlDef
use Rattle.sv_base.specs.contracts.config.Config as Config
use Rattle.bay_model.proofs.tables.AttrIds.TheSendSync as ids
use Rattle.bay_model.proofs.tables.SetRow.TheSendSync as set_row
use Rattle.bay_model.specs.contracts.tables.MemberShape as MemberShape
use Rattle.bay_model.specs.contracts.tables.NodeRow as NodeRow
use Rattle.bay_model.specs.contracts.tables.AttrRow as AttrRow
use Rattle.octet_rows.proofs.index.Index.TheSendSync as indexes
use Rattle.name_tree.specs.contracts.directories.Directory as Directory
use Rattle.name_tree.specs.contracts.directories.NodeName as NodeName
use Rattle.name_tree.specs.contracts.stands.Stand as Stand
use Rattle.name_leaves.specs.contracts.leaves.Leaf as Leaf
use Rattle.object_model.specs.contracts.tables.Tables as Tables
use Rattle.object_model.specs.contracts.model.Model as Model

kind_field_send : IsSend TypeOf.the_field.row
kind_field_send = search (crosses, types.crosses, sendable) depth 60

pub kind_send : IsSend TypeOf.the_row
kind_send = search (kind_field_send, sendable)

value_send : IsSend Value.the_row
value_send = search (crosses, values.crosses, sendable) depth 60

values_send : IsSend FirstValues.the_row
values_send = search (value_send, few.the_send, sendable) depth 60

-- what a configuration is made of
attr_field_send : IsSend AttrDef.the_field.row
attr_field_send = search (kind_field_send, values_send, short.the_send, shared.the_send, sendable) depth 60

attr_send : IsSend AttrDef.the_row
attr_send = search (attr_field_send, sendable)

control_send : IsSend CtlDef.the_row
control_send = search (kind_field_send, octs.the_send, sendable) depth 60

config_field_send : IsSend Config.the_field.row
config_field_send = search (list.the_send, attr_send, control_send, octs.the_send, node_def.the_send, set_def.the_send, block_def.the_send, group_def.the_send, sendable) depth 60

pub config_send : IsSend Config.the_row
config_send = search (config_field_send, sendable)

-- the tables of the nodes
shape_field_send : IsSend MemberShape.the_field.row
shape_field_send = search (kind_field_send, ids.the_send, sendable) depth 60

pub shape_send : IsSend MemberShape.the_row
shape_send = search (shape_field_send, sendable)

node_send : IsSend NodeRow.the_row
node_send = search (shape_field_send, sendable) depth 60

directory_send : IsSend Directory.the_row
directory_send = search (indexes.the_send, crosses, sendable) depth 60

name_send : IsSend NodeName.the_row
name_send = search (sendable) depth 60

stand_send : IsSend Stand.the_row
stand_send = search (sendable) depth 60

leaf_send : IsSend Leaf.the_row
leaf_send = search (sendable) depth 60

tables_field_send : IsSend Tables.the_field.row
tables_field_send = search (list.the_send, stand_send, leaf_send, node_send, indexes.the_send, directory_send, name_send, set_row.the_send, crosses, sendable) depth 60

attr_row_send : IsSend AttrRow.the_row
attr_row_send = search (kind_field_send, sendable) depth 60

pub model_send : IsSend Model.the_row
model_send = search (config_field_send, tables_field_send, indexes.the_send, attr_row_send, crosses, sendable) depth 60
