-- The example bay with two setting groups of one setting, of which the first is active (IEC 61850-7-2, SGCB). The nodes of
-- the block and of the setting stand after the others; the structures above them are those of the example without them.
use Rattle.std.specs.Prelude.{ℕ, pos, List, [], ◌∷◌, ◌++◌, false, codes}
use Rattle.sv_base.specs.declared.value.Value.TheVariants as kinds
use Rattle.bay_model.specs.Model as model
use Rattle.bay_model.specs.Model.{Model, Node, Attr, Access, Trees, attribute, setting, leaf, structure, none, more, single}
use Rattle.sv_base.specs.declared.components.SettingComp.{SettingComp}
use Rattle.sv_base.specs.declared.components.SettingComp.TheVariants.{NumOfSG, ActSG, EditSG, CnfEdit, LActTm}
use Rattle.sv_base.specs.Kinds.{int}
use Rattle.sv_base.specs.ComponentTable.{setting_components}
use Rattle.bay_examples.specs.ExampleNodes.{domain, node, nodes, attrs_with, power, attribute_node, within}
use Rattle.bay_examples.specs.Example.{example}

abbrev pub part_leaves : List SettingComp → Trees
part_leaves [] = none
part_leaves (k ∷ ks) = more (leaf (setting 0 k)) (part_leaves ks)

abbrev pub part_node : List ℕ → SettingComp → Node
part_node name k = record { domain = domain; item = codes "LLN0$SP$SGCB$" ++ name; role = single (setting 0 k); tree = leaf (setting 0 k); attrs = []; allowed = false }

-- 36 is ActSG, 37 EditSG and 38 CnfEdit
abbrev pub group_nodes : List Node
group_nodes = node (codes "LLN0$SP") (within (structure (part_leaves setting_components))) [] false ∷ node (codes "LLN0$SP$SGCB") (structure (part_leaves setting_components)) [] false
    ∷ part_node (codes "NumOfSG") NumOfSG ∷ part_node (codes "ActSG") ActSG ∷ part_node (codes "EditSG") EditSG ∷ part_node (codes "CnfEdit") CnfEdit ∷ part_node (codes "LActTm") LActTm ∷ []

-- 42 is the setting under SG, 45 under SE
abbrev pub setting_nodes : List Node
setting_nodes = node (codes "MMXU1$SG") (within (within (leaf (attribute 7)))) (7 ∷ []) false ∷ node (codes "MMXU1$SG$StrVal") (within (leaf (attribute 7))) (7 ∷ []) false
    ∷ attribute_node (codes "MMXU1$SG$StrVal$setMag") 7
    ∷ node (codes "MMXU1$SE") (within (within (leaf (attribute 8)))) (8 ∷ []) false ∷ node (codes "MMXU1$SE$StrVal") (within (leaf (attribute 8))) (8 ∷ []) false
    ∷ record (attribute_node (codes "MMXU1$SE$StrVal$setMag") 8) { allowed = false } ∷ []

-- 10 in the first group, 20 in the second; 7 is the number of the SG attribute
abbrev pub setting_attr : Access → Attr
setting_attr access = record { access = access; kind = int 32; dchg = false; qchg = false; dupd = false; initial = kinds.Int (pos 10) ∷ kinds.Int (pos 20) ∷ []; domain = 0; original = 7 }

abbrev pub example_settings : Model
example_settings = record (example 200) {
  nodes = nodes ++ (group_nodes ++ setting_nodes);
  attrs = attrs_with power ++ (setting_attr model.active ∷ setting_attr model.edited ∷ []);
  groups = record { count = 2; active = 1 } ∷ [];
}
