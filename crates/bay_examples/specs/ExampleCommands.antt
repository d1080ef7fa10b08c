-- Commands of worked histories over the example control, and what they are answered (IEC 61850-8-1, SBOw, Oper, Cancel,
-- LastApplError and CommandTermination).
use Rattle.std.specs.Prelude.{ℕ, Bool, true, false, pos, List, [], ◌∷◌, ◌++◌, None, Some, Err, codes}
use Rattle.sv_base.specs.declared.value.Value.TheVariants as kinds
use Rattle.bay_model.specs.declared.answer.Answer.{Answer}
use Rattle.bay_model.specs.declared.answer.Answer.TheVariants as answers
use Rattle.bay_model.specs.declared.answer.Answer.TheVariants.{Went, Empty, Opened, Asked}
use Rattle.bay_model.specs.declared.control.ApplError.{ApplError}
use Rattle.bay_model.specs.declared.answer.Output.TheVariants as outputs
use Rattle.bay_model.specs.declared.reply.Reply.TheVariants as replies
use Rattle.bay_model.specs.declared.step.Step.TheVariants as steps
use Rattle.bay_model.specs.Answers.{Turn}
use Rattle.bay_examples.specs.ExampleTurns.{turn}
use Rattle.bay_examples.specs.ExampleRequests.{target, write_to}
use Rattle.bay_examples.specs.ExampleControl.{command, cancellation}

-- a's SBOw, Oper and Cancel, with ctlNum and Test
abbrev pub select_with : (a invoke number : ℕ) → Bool → Turn
select_with a invoke number test = write_to a invoke (target 38 (codes "CSWI1$CO$Pos$SBOw")) (command number test)

abbrev pub operate_with : (a invoke number : ℕ) → Bool → Turn
operate_with a invoke number test = write_to a invoke (target 47 (codes "CSWI1$CO$Pos$Oper")) (command number test)

abbrev pub cancel_with : (a invoke number : ℕ) → Bool → Turn
cancel_with a invoke number test = write_to a invoke (target 56 (codes "CSWI1$CO$Pos$Cancel")) (cancellation number test)

abbrev pub done : Bool → Turn
done good = turn 0 (steps.Done (record { 0 = 0 }) good)

abbrev pub block : Bool → Turn
block flag = turn 0 (steps.Block (record { 0 = 0 }) flag)

-- the LastApplError of a refused command, which was written to this variable
abbrev pub error_of : List ℕ → (number cause : ℕ) → ApplError
error_of name number cause = record { object = codes "BAY1/CSWI1$CO$Pos$" ++ name; or_cat = pos 2; or_ident = []; ctl_num = number; cause = cause }

-- a command is refused by an AddCause
abbrev pub barred : List ℕ → (invoke number cause : ℕ) → Answer
barred name invoke number cause = answers.Taken (outputs.Reply (error_of name number cause ∷ []) invoke (replies.Wrote (Err 3 ∷ [])))

abbrev pub oper : List ℕ
oper = codes "Oper"

-- a termination, positive or negative
abbrev pub ended_well : (number : ℕ) → Bool → Answer
ended_well number test = answers.Taken (outputs.Termination (record { control = record { 0 = 0 }; oper = command number test; error = None }))

abbrev pub ended_badly : (number : ℕ) → Answer
ended_badly number = answers.Taken (outputs.Termination (record { control = record { 0 = 0 }; oper = command number false; error = Some (error_of oper number 16) }))

-- an act of association 1, with its ctlVal
abbrev pub acts : Answer
acts = Asked (record { control = record { 0 = 0 }; value = kinds.Bool true; by = record { 0 = 1 } } ∷ [])
