-- Which outputs of a bay can be sent (IEC 61850-8-1, the mapping of its services; ISO 9506-2, MMSpdu).
use Rattle.std.specs.Prelude.{◌≡◌, ℕ, ◌<◌, ◌≤◌, List, [], ◌∷◌, ◌++◌, length, codes, Some, IfSome, Result, Ok, Err, slice_get}
use Rattle.std.specs.List.{All, AllByRecursion}
use Rattle.sv_base.specs.CtlServices.{service_name}
use Rattle.sv_base.specs.Data.{data_of}
use Rattle.sv_base.specs.Depth.{depth, HasNoOther}
use Rattle.sv_base.specs.Seen.{seen_of}
use Rattle.sv_base.specs.Tree.{Seen}
use Rattle.sv_base.specs.declared.config.Config.{Config}
use Rattle.sv_base.specs.declared.config.CtlDef.{CtlDef}
use Rattle.sv_base.specs.declared.ctl_services.CtlService.TheVariants.{Oper}
use Rattle.sv_base.specs.declared.numbers.NodeId.{NodeId}
use Rattle.sv_base.specs.declared.rejections.TheConstants.{UNKNOWN_PDU, INVALID_PDU}
use Rattle.sv_base.specs.declared.value.Value.{Value}
use Rattle.mms_data.specs.Grammar.{IsSpelled}
use Rattle.mms_data.specs.Writable.{SeenHasFractions}
use Rattle.bay_model.specs.Named.{nodes}
use Rattle.bay_model.specs.declared.answer.Answer.{Answer}
use Rattle.bay_model.specs.declared.answer.Answer.TheVariants as answers
use Rattle.bay_model.specs.declared.answer.Output.{Output}
use Rattle.bay_model.specs.declared.answer.Output.TheVariants as outputs
use Rattle.bay_model.specs.declared.control.ApplError.{ApplError}
use Rattle.bay_model.specs.declared.control.Termination.{Termination}
use Rattle.bay_model.specs.declared.reply.Reply.{Reply}
use Rattle.bay_model.specs.declared.reply.Reply.TheVariants as replies
use Rattle.bay_model.specs.declared.report.Member.{Member}
use Rattle.bay_model.specs.declared.report.Report.{Report}

-- ---- reports

-- the numbers ascend, above one and up to another
abbrev pub Ascend : ℕ → ℕ → List Member → Type 0
Ascend last total [] = Unit {0}
Ascend last total (m ∷ ms) = (last < m.number.0) × (m.number.0 ≤ total) × Ascend m.number.0 total ms

abbrev pub IsShort : Member → Type 0
IsShort m = (length m.reference ≤ 129) × (length m.octets ≤ 500)

-- the octets are one whole Data (ISO 9506-2, Data)
abbrev pub HasData : Member → Type 0
HasData m = (s : Seen) × IsSpelled m.octets s

-- a report that can be cut
pub record CanBeCut (r : Report) : Type 0 where
  pub options : length r.opt_flds ≡ 10
  pub least : 1 ≤ r.total
  pub most : r.total ≤ 256
  pub numbered : Ascend 0 r.total r.members
  pub rpt_id : length r.rpt_id ≤ 129
  pub dat_set : length r.dat_set ≤ 129
  pub members : AllByRecursion IsShort r.members
  pub values : AllByRecursion HasData r.members

-- ---- controls

-- the item of the variable Oper of a control's line, `LN$CO$DO$Oper`
abbrev pub oper_item : CtlDef → List ℕ
oper_item k = k.ln ++ (codes "$CO$" ++ (k.path ++ 36 ∷ service_name Oper))

-- an ObjectReference (IEC 61850-7-2) and an orIdent of their greatest length at most
pub record IsShortError (e : ApplError) : Type 0 where
  pub object : length e.object ≤ 129
  pub ident : length e.or_ident ≤ 64

pub record HasShortName (k : CtlDef) : Type 0 where
  pub domain : length k.domain ≤ 129
  pub item : length (oper_item k) ≤ 129

-- the control is there, and its name and the values are short
pub record IsShortTermination (c : Config) (t : Termination) : Type 0 where
  pub control : t.control.0 < length c.controls
  pub name : (k : CtlDef) → slice_get c.controls t.control.0 ≡ Some k → HasShortName k
  pub oper : length (data_of t.oper) ≤ 300
  pub error : IfSome t.error IsShortError

-- ---- replies

-- Data that has a spelling (ISO 9506-2, Data), at most ten deep
abbrev pub IsWritable : Result Value ℕ → Type 0
IsWritable (Ok v) = HasNoOther v × (depth v ≤ 10) × SeenHasFractions (seen_of v)
IsWritable (Err code) = Unit {0}

abbrev pub IsNode : Config → NodeId → Type 0
IsNode c n = n.0 < length (nodes c)

-- Each node is one of the model's, and a reject has the number of a refusal.
abbrev pub CanBeReplied : Config → Reply → Type 0
CanBeReplied c (replies.TypeOfNode n) = IsNode c n
CanBeReplied c (replies.Read asked results) = All IsWritable results
CanBeReplied c (replies.SetOf deletable members) = All (IsNode c) members
CanBeReplied c (replies.Reject n) = (UNKNOWN_PDU ≤ n) × (n ≤ INVALID_PDU)
CanBeReplied c _ = Unit {0}

-- ---- outputs

abbrev pub CanBeSent : Config → Output → Type 0
CanBeSent c (outputs.Reply before invoke reply) = All IsShortError before × CanBeReplied c reply
CanBeSent c (outputs.Report r) = CanBeCut r
CanBeSent c (outputs.Termination t) = IsShortTermination c t × IsWritable (Ok t.oper)

-- an answer's output, where it has one, can be sent
abbrev pub IsSendable : Config → Answer → Type 0
IsSendable c (answers.Taken o) = CanBeSent c o
IsSendable c _ = Unit {0}
