-- Worked histories: a control that is selected, operated and ended (IEC 61850-7-2, the control class model, AddCause and
-- CommandTermination).
use Rattle.std.specs.Prelude.{true, false, [], ◌∷◌, codes}
use Rattle.bay_model.specs.declared.answer.Answer.TheVariants.{Went, Empty, Opened, Asked}
use Rattle.bay_examples.specs.ExampleTurns.{at, open_direct, lost, take, Answered}
use Rattle.bay_examples.specs.ExampleRequests.{wrote}
use Rattle.bay_examples.specs.ExampleControl.{example_control}
use Rattle.bay_examples.specs.ExampleCommands.{select_with, operate_with, cancel_with, done, block, barred, oper, ended_well, ended_badly, acts}

-- An Oper is refused where another has selected the control (27), where it differs from the select in ctlNum or in Test
-- (26), and where the selection's time is over (18).
abbrev pub RefusedOpers : Type 0
RefusedOpers = Answered example_control (open_direct 1 ∷ open_direct 2 ∷ select_with 1 1 1 false ∷ take 1 ∷ [])
    (operate_with 2 5 1 false ∷ take 2 ∷ operate_with 1 2 2 false ∷ take 1 ∷ operate_with 1 4 1 true ∷ take 1 ∷ at 5000 (operate_with 1 3 1 false) ∷ at 5000 (take 1) ∷ [])
    (Asked [] ∷ barred oper 5 1 27 ∷ Asked [] ∷ barred oper 2 2 26 ∷ Asked [] ∷ barred oper 4 1 26 ∷ Asked [] ∷ barred oper 3 1 18 ∷ [])

-- In the last millisecond of the selection the Oper acts; its termination comes by Done.
abbrev pub ActAndTermination : Type 0
ActAndTermination = Answered example_control (open_direct 1 ∷ [])
    (select_with 1 1 1 false ∷ take 1 ∷ at 4999 (operate_with 1 2 1 false) ∷ at 4999 (take 1) ∷ at 4999 (take 1) ∷ at 4999 (done true) ∷ at 4999 (take 1) ∷ [])
    (Asked [] ∷ wrote 1 ∷ acts ∷ wrote 2 ∷ Empty ∷ Went ∷ ended_well 1 false ∷ [])

-- While it is running every Oper is refused (12); an execution that ends badly has a negative termination, and the Oper
-- ended the selection (18).
abbrev pub NegativeTermination : Type 0
NegativeTermination = Answered example_control (open_direct 1 ∷ select_with 1 1 1 false ∷ operate_with 1 2 1 false ∷ take 1 ∷ take 1 ∷ [])
    (operate_with 1 3 1 false ∷ take 1 ∷ done false ∷ take 1 ∷ operate_with 1 4 1 false ∷ take 1 ∷ [])
    (Asked [] ∷ barred oper 3 1 12 ∷ Went ∷ ended_badly 1 ∷ Asked [] ∷ barred oper 4 1 18 ∷ [])

-- A test operate is no act, and its termination comes at once, after its own reply; a Done does nothing to it.
abbrev pub TestOperate : Type 0
TestOperate = Answered example_control (open_direct 1 ∷ select_with 1 1 1 true ∷ take 1 ∷ [])
    (operate_with 1 2 1 true ∷ done false ∷ take 1 ∷ take 1 ∷ take 1 ∷ [])
    (Asked [] ∷ Went ∷ wrote 2 ∷ ended_well 1 true ∷ Empty ∷ [])

-- A Cancel by another is refused (27); the selecting association's own ends the selection (18).
abbrev pub CancelledSelection : Type 0
CancelledSelection = Answered example_control (open_direct 1 ∷ open_direct 2 ∷ select_with 1 1 1 false ∷ take 1 ∷ [])
    (cancel_with 2 1 1 false ∷ take 2 ∷ cancel_with 1 2 1 false ∷ take 1 ∷ operate_with 1 3 1 false ∷ take 1 ∷ [])
    (Asked [] ∷ barred (codes "Cancel") 1 1 27 ∷ Asked [] ∷ wrote 2 ∷ Asked [] ∷ barred oper 3 1 18 ∷ [])

-- A blocked control refuses (9); a lost association leaves the control to another.
abbrev pub BlockedAndLost : Type 0
BlockedAndLost = Answered example_control (open_direct 1 ∷ open_direct 2 ∷ select_with 1 1 1 false ∷ take 1 ∷ block true ∷ [])
    (operate_with 1 2 1 false ∷ take 1 ∷ block false ∷ lost 1 ∷ select_with 2 1 1 false ∷ take 2 ∷ [])
    (Asked [] ∷ barred oper 2 1 9 ∷ Went ∷ Went ∷ Asked [] ∷ wrote 1 ∷ [])

-- The loss of another association leaves the control selected.
abbrev pub SelectedBesideLoss : Type 0
SelectedBesideLoss = Answered example_control (open_direct 1 ∷ open_direct 2 ∷ select_with 1 1 1 false ∷ take 1 ∷ lost 2 ∷ [])
    (operate_with 1 2 1 false ∷ take 1 ∷ [])
    (acts ∷ wrote 2 ∷ [])

-- An execution whose association was lost runs until Done, and has no termination.
abbrev pub LostExecution : Type 0
LostExecution = Answered example_control (open_direct 1 ∷ select_with 1 1 1 false ∷ operate_with 1 2 1 false ∷ lost 1 ∷ open_direct 1 ∷ [])
    (select_with 1 3 1 false ∷ take 1 ∷ done true ∷ take 1 ∷ select_with 1 4 1 false ∷ take 1 ∷ [])
    (Asked [] ∷ barred (codes "SBOw") 3 1 12 ∷ Went ∷ Empty ∷ Asked [] ∷ wrote 4 ∷ [])

-- The control runs until its termination is taken; a loss after Done ends it, and drops the termination.
abbrev pub LostTermination : Type 0
LostTermination = Answered example_control (open_direct 1 ∷ select_with 1 1 1 false ∷ operate_with 1 2 1 false ∷ take 1 ∷ take 1 ∷ done true ∷ open_direct 2 ∷ [])
    (select_with 2 1 1 false ∷ take 2 ∷ lost 1 ∷ open_direct 1 ∷ take 1 ∷ select_with 2 2 1 false ∷ take 2 ∷ select_with 1 3 1 false ∷ take 1 ∷ [])
    (Asked [] ∷ barred (codes "SBOw") 1 1 12 ∷ Went ∷ Opened ∷ Empty ∷ Asked [] ∷ wrote 2 ∷ Asked [] ∷ barred (codes "SBOw") 3 1 19 ∷ [])

-- A select is refused while anyone has selected the control, the selecting association too (19), and while the control is
-- blocked (9) or running (12); a Cancel too while it is running.
abbrev pub RefusedSelects : Type 0
RefusedSelects = Answered example_control (open_direct 1 ∷ open_direct 2 ∷ select_with 1 1 1 false ∷ take 1 ∷ [])
    (select_with 1 2 1 false ∷ take 1 ∷ select_with 2 1 1 false ∷ take 2 ∷ cancel_with 1 3 1 false ∷ block true ∷ take 1 ∷ select_with 1 4 1 false ∷ take 1 ∷ block false
    ∷ select_with 1 5 1 false ∷ operate_with 1 6 1 false ∷ take 1 ∷ take 1 ∷ cancel_with 1 7 1 false ∷ take 1 ∷ select_with 2 2 1 false ∷ take 2 ∷ [])
    (Asked [] ∷ barred (codes "SBOw") 2 1 19 ∷ Asked [] ∷ barred (codes "SBOw") 1 1 19 ∷ Asked [] ∷ Went ∷ wrote 3 ∷ Asked [] ∷ barred (codes "SBOw") 4 1 9 ∷ Went
    ∷ Asked [] ∷ acts ∷ wrote 5 ∷ wrote 6 ∷ Asked [] ∷ barred (codes "Cancel") 7 1 12 ∷ Asked [] ∷ barred (codes "SBOw") 2 1 12 ∷ [])
