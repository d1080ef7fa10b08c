-- A configuration up to the numbers of its lines.
use Rattle.std.specs.Prelude.{◌≡◌, ℕ, List, map, Ok}
use Rattle.sv_base.specs.declared.config.Config.{Config}
use Rattle.sv_base.specs.declared.config.LnDef.{LnDef}
use Rattle.sv_base.specs.declared.config.AttrDef.{AttrDef}
use Rattle.sv_base.specs.declared.config.SetDef.{SetDef}
use Rattle.sv_base.specs.declared.config.BlockDef.{BlockDef}
use Rattle.sv_base.specs.declared.config.CtlDef.{CtlDef}
use Rattle.sv_base.specs.declared.config.SgDef.{SgDef}
use Rattle.cfg_parser.specs.Looking.{config_at}

abbrev pub unnumbered : Config → Config
unnumbered c = record c {
  nodes = map (λ (node : LnDef). record node { line = 0 }) c.nodes;
  attrs = map (λ (attr : AttrDef). record attr { line = 0 }) c.attrs;
  sets = map (λ (set : SetDef). record set { line = 0 }) c.sets;
  blocks = map (λ (block : BlockDef). record block { line = 0 }) c.blocks;
  controls = map (λ (control : CtlDef). record control { line = 0 }) c.controls;
  groups = map (λ (groups : SgDef). record groups { line = 0 }) c.groups;
}

-- the text reads as the configuration, but the lines may have other numbers
abbrev pub ReadsAs : List ℕ → Config → Type 0
ReadsAs text config = (again : Config) × (config_at text ≡ Ok again) × (unnumbered again ≡ unnumbered config)
