-- The example bay with one control: the position of the switch controller CSWI1, selected by SBOw and with enhanced
-- security (IEC 61850-7-2, ctlModel 4; IEC 61850-8-1, its names).
use Rattle.std.specs.Prelude.{ℕ, Bool, true, false, pos, List, [], ◌∷◌, ◌++◌, codes}
use Rattle.sv_base.specs.Tree as seen
use Rattle.sv_base.specs.Tree.{Row}
use Rattle.sv_base.specs.declared.value.Value.{Value}
use Rattle.sv_base.specs.declared.value.Value.TheVariants as kinds
use Rattle.bay_model.specs.Model.{Model, Node, Tree, Trees, Call, select, operate, cancel, attribute, withheld, leaf, structure, none, more, single, calling}
use Rattle.sv_base.specs.Kinds.{truth, int, uint}
use Rattle.bay_examples.specs.ExampleNodes.{domain, node, nodes, attr, attrs_with, power, attribute_node, within}
use Rattle.bay_examples.specs.Example.{example}

abbrev pub part : Tree
part = leaf withheld

abbrev pub part_node : List ℕ → Node
part_node item = record { domain = domain; item = item; role = single withheld; tree = part; attrs = []; allowed = false }

abbrev pub origin_tree : Tree
origin_tree = structure (more part (more part none))

-- SBOw and Oper end with Check, Cancel with Test
abbrev pub check_tree : Call → Trees
check_tree cancel = none
check_tree _ = more part none

abbrev pub check_nodes : Call → List ℕ → List Node
check_nodes cancel item = []
check_nodes _ item = part_node (item ++ codes "$Check") ∷ []

abbrev pub command_tree : Call → Tree
command_tree call = structure (more part (more origin_tree (more part (more part (more part (check_tree call))))))

-- the nodes of one of SBOw, Oper and Cancel
abbrev pub command_nodes : Call → List ℕ → List Node
command_nodes call item =
    record { domain = domain; item = item; role = calling 0 call; tree = command_tree call; attrs = []; allowed = false }
    ∷ part_node (item ++ codes "$ctlVal") ∷ node (item ++ codes "$origin") origin_tree [] false ∷ part_node (item ++ codes "$origin$orCat") ∷ part_node (item ++ codes "$origin$orIdent")
    ∷ part_node (item ++ codes "$ctlNum") ∷ part_node (item ++ codes "$T") ∷ part_node (item ++ codes "$Test") ∷ check_nodes call item

abbrev pub control_tree : Tree
control_tree = structure (more (command_tree select) (more (command_tree operate) (more (command_tree cancel) none)))

abbrev pub parameter_tree : Tree
parameter_tree = structure (more (leaf (attribute 7)) (more (leaf (attribute 8)) (more (leaf (attribute 9)) none)))

-- 36 is SBOw, 45 is Oper and 54 is Cancel; then come ctlModel, sboTimeout and sboClass
abbrev pub control_nodes : List Node
control_nodes = node (codes "CSWI1") (structure (more (within control_tree) (more (within parameter_tree) none))) (7 ∷ 8 ∷ 9 ∷ []) false
    ∷ node (codes "CSWI1$CO") (within control_tree) [] false ∷ node (codes "CSWI1$CO$Pos") control_tree [] false
    ∷ (command_nodes select (codes "CSWI1$CO$Pos$SBOw") ++ (command_nodes operate (codes "CSWI1$CO$Pos$Oper") ++ (command_nodes cancel (codes "CSWI1$CO$Pos$Cancel")
    ++ (node (codes "CSWI1$CF") (within parameter_tree) (7 ∷ 8 ∷ 9 ∷ []) true ∷ node (codes "CSWI1$CF$Pos") parameter_tree (7 ∷ 8 ∷ 9 ∷ []) true
    ∷ attribute_node (codes "CSWI1$CF$Pos$ctlModel") 7 ∷ attribute_node (codes "CSWI1$CF$Pos$sboTimeout") 8 ∷ attribute_node (codes "CSWI1$CF$Pos$sboClass") 9 ∷ []))))

-- a selection lasts 5000 milliseconds, and an Oper ends it
abbrev pub example_control : Model
example_control = record (example 200) {
  nodes = nodes ++ control_nodes;
  attrs = attrs_with power ++ (attr (int 8) false false (kinds.Int (pos 4)) ∷ attr (uint 32) false false (kinds.Uint 5000) ∷ attr (int 8) false false (kinds.Int (pos 0)) ∷ []);
  controls = record { reference = codes "BAY1/CSWI1$CO$Pos"; model = 4; timeout = 5000; sbo_class = 0; kind = truth } ∷ [];
}

-- what a command says: on, of orCat 2 and no orIdent, with ctlNum, Test and what follows
abbrev pub command_with : Row → ℕ → Bool → Value
command_with rest number test = kinds.Struct (seen.more (seen.plain (seen.truth true)) (seen.more (seen.structure (seen.more (seen.plain (seen.int (pos 2))) (seen.more (seen.plain (seen.octets [])) seen.none)))
    (seen.more (seen.plain (seen.uint number)) (seen.more (seen.plain (seen.time 0 0 0)) (seen.more (seen.plain (seen.truth test)) rest)))))

-- the value of SBOw and Oper, with Check, and that of Cancel
abbrev pub command : ℕ → Bool → Value
command number test = command_with (seen.more (seen.plain (seen.bits (false ∷ false ∷ []))) seen.none) number test

abbrev pub cancellation : ℕ → Bool → Value
cancellation number test = command_with seen.none number test
