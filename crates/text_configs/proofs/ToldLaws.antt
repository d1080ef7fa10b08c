-- The facts that a text's configuration has, for what is proved of its names.
use Rattle.std.proofs.Common.{◌≡◌, ℕ, true, List, refl}
use Rattle.std.specs.Prelude.{codes}
use Rattle.sv_base.specs.declared.config.Config.{Config}
use Rattle.sv_base.specs.declared.config.LnDef.{LnDef}
use Rattle.sv_base.specs.declared.config.AttrDef.{AttrDef}
use Rattle.sv_base.specs.declared.config.BlockDef.{BlockDef}
use Rattle.sv_base.specs.declared.config.CtlDef.{CtlDef}
use Rattle.sv_base.specs.declared.config.SgDef.{SgDef}
use Rattle.text_words.specs.Names.{is_name}
use Rattle.cfg_lines.specs.Claims.{group_key}
use Rattle.cfg_lines.specs.Configs.{config_of}
use Rattle.cfg_lines.specs.Nodes.{leaves}
use Rattle.cfg_lines.specs.declared.leaf.Leaf.{Leaf}
use Rattle.cfg_lines.specs.declared.line.Line.{Line}
use Rattle.cfg_grammar.specs.Texts.{AreLines}
use Rattle.list_laws.proofs.Among.{Among}
use Rattle.text_configs.proofs.StandLaws.{nodes-read}
use Rattle.text_configs.proofs.AttrLaws.{IsRead, key_of, AreBeside, AreAllBeside}
use Rattle.text_configs.proofs.SetLaws.{IsReadBlock, blocks-read}
use Rattle.text_configs.proofs.ClashLaws.{groups-beside}
use Rattle.text_configs.proofs.ControlLaws.{IsReadControl, controls-read}
use Rattle.text_configs.proofs.ParameterLaws.{all_attrs, all-read, all-beside, leaf_of, IsLeafOf, leaf-there, leaf-back}

pub record IsTold (c : Config) : Type 0 where
  pub nodes : (n : LnDef) → Among n c.nodes → (is_name n.ln ≡ true) × (is_name n.domain ≡ true)
  pub attrs : (a : AttrDef) → Among a (all_attrs c) → IsRead c.nodes a
  pub beside : AreAllBeside (all_attrs c)
  pub blocks : (b : BlockDef) → Among b c.blocks → IsReadBlock b
  pub controls : (k : CtlDef) → Among k c.controls → IsReadControl c.nodes k
  pub groups : (g : SgDef) → Among g c.groups → (a : AttrDef) → Among a c.attrs → AreBeside (key_of a) (group_key g.domain (codes "LLN0"))
  -- in the order of the lines
  pub leaves : List Leaf
  pub leaf_there : (a : AttrDef) → Among a (all_attrs c) → Among (leaf_of a) leaves
  pub leaf_back : (l : Leaf) → Among l leaves → IsLeafOf (all_attrs c) l

pub is-told : (told : List Line) (text : List ℕ) → AreLines text told → IsTold (config_of told)
is-told told text are = record {
  nodes = nodes-read told text are;
  attrs = all-read told text are;
  beside = all-beside told text are;
  blocks = blocks-read told text are;
  controls = controls-read told text are;
  groups = groups-beside told text are;
  leaves = leaves told;
  leaf_there = leaf-there told;
  leaf_back = leaf-back told;
}

pub told-leaves : (told : List Line) (text : List ℕ) (are : AreLines text told) → (is-told told text are).leaves ≡ leaves told
unfolding is-told
told-leaves told text are = refl
