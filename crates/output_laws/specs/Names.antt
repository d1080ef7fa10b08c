-- How long the names are that a configuration's text can have (IEC 61850-7-2, ObjectReference; IEC 61850-8-1, ItemID).
use Rattle.std.specs.Prelude.{◌≤◌, length}
use Rattle.std.specs.List.{All}
use Rattle.sv_base.specs.declared.config.Config.{Config}
use Rattle.sv_base.specs.declared.config.BlockDef.{BlockDef}
use Rattle.sv_base.specs.declared.config.CtlDef.{CtlDef}
use Rattle.bay_model.specs.Configured.{block_defined, control_defined}
use Rattle.output_shapes.specs.Shapes.{HasShortName}

-- the reference of a block, and the RptID and the DatSet that it begins with
pub record IsShortBlock (b : BlockDef) : Type 0 where
  pub reference : length (block_defined b).reference ≤ 129
  pub rpt_id : length b.rpt_id ≤ 129
  pub dat_set : length b.dat_set ≤ 129

-- Oper of a control, and its reference `LD/LN$CO$DO`, to which `$SBOw`, `$Oper` or `$Cancel` is added
pub record IsShortControl (k : CtlDef) : Type 0 where
  pub oper : HasShortName k
  pub reference : length (control_defined k).reference ≤ 122

pub record HasShortNames (c : Config) : Type 0 where
  pub blocks : All IsShortBlock c.blocks
  pub controls : All IsShortControl c.controls
