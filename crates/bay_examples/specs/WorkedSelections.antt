-- Worked histories: a control that is selected by SBO, operated once or many times, or not selected at all (IEC 61850-7-2,
-- ctlModel 1 and 2, sboTimeout and sboClass).
use Rattle.std.specs.Prelude.{ℕ, true, false, [], ◌∷◌, ◌++◌, codes}
use Rattle.sv_base.specs.declared.value.Value.TheVariants as kinds
use Rattle.bay_model.specs.declared.answer.Answer.TheVariants.{Asked, Went}
use Rattle.bay_model.specs.Model.{Model, Node, leaf, withheld, selecting}
use Rattle.sv_base.specs.Kinds.{truth}
use Rattle.bay_model.specs.Answers.{Turn}
use Rattle.bay_examples.specs.Example.{example}
use Rattle.bay_examples.specs.ExampleNodes.{domain, nodes}
use Rattle.bay_examples.specs.ExampleTurns.{at, open_direct, take, Answered}
use Rattle.bay_examples.specs.ExampleRequests.{target, read, gave, wrote}
use Rattle.bay_examples.specs.ExampleControl.{control_nodes}
use Rattle.bay_examples.specs.ExampleCommands.{block, operate_with, barred, oper, acts}

abbrev pub sbo_node : Node
sbo_node = record { domain = domain; item = codes "CSWI1$CO$Pos$SBO"; role = selecting 0; tree = leaf withheld; attrs = []; allowed = false }

-- the example with a control of a ctlModel and an sboClass; SBO stands after the other nodes, as 67
abbrev pub controlled : (ctl_model sbo_class : ℕ) → Model
controlled ctl_model sbo_class = record (example 200) {
  nodes = nodes ++ (control_nodes ++ sbo_node ∷ []);
  controls = record { reference = codes "BAY1/CSWI1$CO$Pos"; model = ctl_model; timeout = 5000; sbo_class = sbo_class; kind = truth } ∷ [];
}

abbrev pub read_sbo : (a invoke : ℕ) → Turn
read_sbo a invoke = read a invoke (target 69 (codes "CSWI1$CO$Pos$SBO"))

-- A read of SBO gives the reference and selects, or the empty text where another has selected the control.
abbrev pub SelectedBySBO : Type 0
SelectedBySBO = Answered (controlled 2 0) (open_direct 1 ∷ open_direct 2 ∷ [])
    (read_sbo 1 1 ∷ take 1 ∷ read_sbo 2 1 ∷ take 2 ∷ operate_with 2 2 1 false ∷ take 2 ∷ operate_with 1 2 1 false ∷ take 1 ∷ operate_with 1 3 1 false ∷ take 1 ∷ [])
    (Asked [] ∷ gave 1 (kinds.Text (codes "BAY1/CSWI1$CO$Pos")) ∷ Asked [] ∷ gave 1 (kinds.Text []) ∷ Asked [] ∷ barred oper 2 1 27 ∷ acts ∷ wrote 2 ∷ Asked [] ∷ barred oper 3 1 18 ∷ [])

-- Operate-many: each Oper starts the selection's time again; it is over when the time since the last one is.
abbrev pub OperatedMany : Type 0
OperatedMany = Answered (controlled 2 1) (open_direct 1 ∷ read_sbo 1 1 ∷ take 1 ∷ [])
    (at 4999 (operate_with 1 2 1 false) ∷ at 4999 (take 1) ∷ at 9998 (operate_with 1 3 1 false) ∷ at 9998 (take 1) ∷ at 14998 (operate_with 1 4 1 false) ∷ at 14998 (take 1) ∷ [])
    (acts ∷ wrote 2 ∷ acts ∷ wrote 3 ∷ Asked [] ∷ barred oper 4 1 18 ∷ [])

-- A direct control acts at once, and never runs; one that is for its status alone never acts.
abbrev pub DirectControl : Type 0
DirectControl = (Answered (controlled 1 0) (open_direct 1 ∷ []) (operate_with 1 1 1 false ∷ take 1 ∷ operate_with 1 2 1 false ∷ take 1 ∷ []) (acts ∷ wrote 1 ∷ acts ∷ wrote 2 ∷ []))
    × (Answered (controlled 0 0) (open_direct 1 ∷ []) (operate_with 1 1 1 false ∷ take 1 ∷ []) (Asked [] ∷ barred oper 1 1 1 ∷ []))

-- A read of SBO gives the empty text while the control is blocked.
abbrev pub BlockedSBO : Type 0
BlockedSBO = Answered (controlled 2 0) (open_direct 1 ∷ block true ∷ [])
    (read_sbo 1 1 ∷ take 1 ∷ block false ∷ read_sbo 1 2 ∷ take 1 ∷ [])
    (Asked [] ∷ gave 1 (kinds.Text []) ∷ Went ∷ Asked [] ∷ gave 2 (kinds.Text (codes "BAY1/CSWI1$CO$Pos")) ∷ [])
