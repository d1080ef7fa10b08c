-- The answer lines of an association, in its shape.
use Rattle.std.specs.Prelude.{ℕ, Bool, List, [], ◌∷◌, ◌++◌, codes, decimal, Option, None, Some, Ok, Err, slice_get, if◌then◌else◌}
use Rattle.std.specs.List.{flat_map}
use Rattle.hex.specs.Hex.{encode_lower}
use Rattle.sv_base.specs.declared.config.Config.{Config}
use Rattle.sv_base.specs.declared.config.BlockDef.{BlockDef}
use Rattle.sv_base.specs.declared.config.CtlDef.{CtlDef}
use Rattle.sv_base.specs.Data.{data_of}
use Rattle.bay_model.specs.Configured.{block_defined, control_defined}
use Rattle.bay_model.specs.declared.control.Act.{Act}
use Rattle.bay_model.specs.declared.answer.Answer.{Answer}
use Rattle.bay_model.specs.declared.answer.Answer.TheVariants as answers
use Rattle.bay_model.specs.declared.answer.Output.{Output}
use Rattle.bay_model.specs.declared.answer.Output.TheVariants as outputs
use Rattle.bay_model.specs.declared.step.Step.{Step}
use Rattle.bay_model.specs.declared.step.Step.TheVariants as steps
use Rattle.bay_model.specs.declared.report.Member.{Member}
use Rattle.bay_model.specs.declared.report.Report.{Report}
use Rattle.bay_model.specs.declared.report.Reasons.{Reasons}
use Rattle.bay_answers.specs.Replies.{output_pdus}
use Rattle.stream_lines.specs.Lines.{framed_line}
use Rattle.stream_lines.specs.declared.shape.Shape.{Shape}
use Rattle.stream_lines.specs.declared.shape.Shape.TheVariants as shapes

abbrev pub letter_if : Bool → ℕ → List ℕ
letter_if there letter = if there then letter ∷ [] else []

-- d, q, u, i and g, those of the reasons that are there
abbrev pub reason_letters : Reasons → List ℕ
reason_letters r = letter_if r.dchg 100 ++ letter_if r.qchg 113 ++ letter_if r.dupd 117 ++ letter_if r.intg 105 ++ letter_if r.gi 103

abbrev pub member_text : Member → List ℕ
member_text m = codes " " ++ decimal m.number.0 ++ codes "=" ++ reason_letters m.reasons ++ codes ":" ++ encode_lower m.octets

-- the reference `LD/LN$BR$NAME` of a block, if it is there
abbrev pub block_text : Option BlockDef → List ℕ
block_text None = []
block_text (Some b) = (block_defined b).reference

-- the fields of a report, before its members
abbrev pub report_head : Config → ℕ → Report → List ℕ
report_head c a r = decimal a ++ codes " report " ++ block_text (slice_get c.blocks r.block.0) ++ codes " sq " ++ decimal r.sq ++ codes " id " ++ decimal r.id ++ codes " time " ++ decimal r.time
    ++ codes " ovfl " ++ (if r.ovfl then codes "1" else codes "0")

abbrev pub report_text : Config → ℕ → Report → List ℕ
report_text c a r = report_head c a r ++ flat_map member_text r.members ++ codes "\n"

-- a PDU, as a line
abbrev pub pdu_line : ℕ → List ℕ → List ℕ
pdu_line a octets = decimal a ++ codes " pdu " ++ encode_lower octets ++ codes "\n"

-- What association a took: a direct one gets reports, one of MMS each PDU, and one on the wire each in its frame. What else a direct
-- association may take has no line: a reply or a termination is none of its own.
abbrev pub output_lines : Config → Shape → ℕ → Output → List ℕ
output_lines c shapes.Direct a (outputs.Report r) = report_text c a r
output_lines c shapes.Direct a _ = []
output_lines c (shapes.Mms size) a output = flat_map (pdu_line a) (output_pdus c size output)
output_lines c (shapes.Wire line) a output = flat_map (framed_line line a) (output_pdus c line.size output)

-- the reference `LD/LN$CO$DO` of a control, if it is there
abbrev pub control_text : Option CtlDef → List ℕ
control_text None = []
control_text (Some k) = (control_defined k).reference

-- an act: the control, the Data of its ctlVal, and who asked
abbrev pub act_line : Config → Act → List ℕ
act_line c x = codes "act " ++ control_text (slice_get c.controls x.control.0) ++ codes " " ++ encode_lower (data_of x.value) ++ codes " by " ++ decimal x.by.0 ++ codes "\n"

-- the acts of a step, in order
abbrev pub act_lines : Config → List Act → List ℕ
act_lines c acts = flat_map (act_line c) acts

-- the lines of an answer to association a: a request has one for each act, a write has one, and so has a take that gives nothing
abbrev pub answer_lines : Config → Shape → ℕ → Answer → List ℕ
answer_lines c shape a (answers.Asked acts) = act_lines c acts
answer_lines c shape a (answers.Wrote (Ok u)) = decimal a ++ codes " ok\n"
answer_lines c shape a (answers.Wrote (Err code)) = decimal a ++ codes " refused " ++ decimal code ++ codes "\n"
answer_lines c shape a answers.Empty = decimal a ++ codes " empty\n"
answer_lines c shape a answers.Closed = decimal a ++ codes " closed\n"
answer_lines c shape a (answers.Taken output) = output_lines c shape a output
answer_lines c shape a _ = []

-- the association that a step is of, and 0 where it is of none
abbrev pub step_association : Step → ℕ
step_association (steps.Open a size writer owner) = a.0
step_association (steps.Ask a r) = a.0
step_association (steps.Write a b comp v) = a.0
step_association (steps.Take a) = a.0
step_association (steps.Lost a) = a.0
step_association _ = 0

-- the text of one step's answer, in the shape of its association
abbrev pub lines_of : Config → Shape → Step → Answer → List ℕ
lines_of c shape step answer = answer_lines c shape (step_association step) answer
