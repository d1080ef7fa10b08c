-- Requests of worked histories over the example bay, and their replies (ISO 9506-2, Read and Write).
use Rattle.std.specs.Prelude.{ℕ, false, List, [], ◌∷◌, Ok, Err}
use Rattle.sv_base.specs.declared.value.Value.{Value}
use Rattle.bay_model.specs.declared.answer.Answer.{Answer}
use Rattle.bay_model.specs.declared.answer.Answer.TheVariants as answers
use Rattle.bay_model.specs.declared.reply.Asked.TheVariants as asked
use Rattle.bay_model.specs.declared.answer.Output.TheVariants as outputs
use Rattle.bay_model.specs.declared.reply.Reply.{Reply}
use Rattle.bay_model.specs.declared.reply.Reply.TheVariants as replies
use Rattle.bay_model.specs.declared.request.ObjName.TheVariants as names
use Rattle.bay_model.specs.declared.request.Service.{Service}
use Rattle.bay_model.specs.declared.request.Service.TheVariants as services
use Rattle.bay_model.specs.declared.request.Target.{Target}
use Rattle.bay_model.specs.declared.request.Target.TheVariants as targets
use Rattle.bay_model.specs.declared.step.Step.TheVariants as steps
use Rattle.bay_model.specs.Answers.{Turn}
use Rattle.bay_examples.specs.ExampleNodes.{domain}
use Rattle.bay_examples.specs.ExampleTurns.{turn}

-- a's request with its invoke number
abbrev pub ask : ℕ → ℕ → Service → Turn
ask a invoke service = turn a (steps.Ask (record { 0 = a }) (record { invoke = invoke; service = service }))

-- a node by its number and its item
abbrev pub target : ℕ → List ℕ → Target
target n item = targets.Node (record { 0 = n }) (names.Domain domain item)

abbrev pub read : (a invoke : ℕ) → Target → Turn
read a invoke t = ask a invoke (services.Read (t ∷ []) false)

abbrev pub write_to : (a invoke : ℕ) → Target → Value → Turn
write_to a invoke t v = ask a invoke (services.WriteVars (record { target = t; value = v } ∷ []))

-- what a Take gives: the reply to a request, without errors before it
abbrev pub replied : ℕ → Reply → Answer
replied invoke r = answers.Taken (outputs.Reply [] invoke r)

abbrev pub gave : ℕ → Value → Answer
gave invoke v = replied invoke (replies.Read asked.No (Ok v ∷ []))

abbrev pub gave_none : ℕ → ℕ → Answer
gave_none invoke code = replied invoke (replies.Read asked.No (Err code ∷ []))

abbrev pub wrote : ℕ → Answer
wrote invoke = replied invoke (replies.Wrote (Ok tt ∷ []))

abbrev pub wrote_none : ℕ → ℕ → Answer
wrote_none invoke code = replied invoke (replies.Wrote (Err code ∷ []))
