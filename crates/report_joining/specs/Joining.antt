-- Reports joined of their segments (IEC 61850-8-1, segmentation of reports).
use Rattle.std.specs.Prelude.{◌≡◌, ℕ, ◌+◌, ◌-◌, ◌<◌, Bool, length, List, [], ◌∷◌, ◌++◌, Option, Some, None, Result, Ok, Err, slice_get, if◌then◌else◌}
use Rattle.bay_model.specs.declared.report.Report.{Report}
use Rattle.bay_model.specs.declared.report.Member.{Member}
use Rattle.report_cut.specs.declared.part.ReportPart.{ReportPart}
use Rattle.report_joining.specs.declared.joining.Begun.{Begun}
use Rattle.report_joining.specs.declared.joining.Joined.{Joined}
use Rattle.report_joining.specs.declared.joining.Joined.TheVariants.{Whole, More}
use Rattle.report_joining.specs.declared.joining.JoinFault.{JoinFault}
use Rattle.report_joining.specs.declared.joining.JoinFault.TheVariants.{Broken, Memory}

-- the last number of the one row is below the first number of the other
abbrev pub AreBelow : List Member → List Member → Type 0
AreBelow before after = (m k : Member) → slice_get before (length before - 1) ≡ Some m → slice_get after 0 ≡ Some k → m.number.0 < k.number.0

-- Two PDUs of one report have the same fields, all but SubSqNum, MoreSegmentsFollow and the members.
pub record Agrees (a b : Report) : Type 0 where
  pub rpt_id : a.rpt_id ≡ b.rpt_id
  pub opt_flds : a.opt_flds ≡ b.opt_flds
  pub sq : a.sq ≡ b.sq
  pub time : a.time ≡ b.time
  pub dat_set : a.dat_set ≡ b.dat_set
  pub ovfl : a.ovfl ≡ b.ovfl
  pub id : a.id ≡ b.id
  pub conf_rev : a.conf_rev ≡ b.conf_rev
  pub total : a.total ≡ b.total

-- The PDU is the next segment of the report that was begun: the members of it have greater numbers than those before. Where
-- none was begun it is numbered 0, as is the first segment, and a report that is sent in one PDU.
abbrev pub IsNext : Option Begun → ReportPart → Type 0
IsNext None part = part.sub ≡ 0
IsNext (Some b) part = (b.next ≡ part.sub) × Agrees b.report part.report × AreBelow b.report.members part.report.members

-- the report with the members that have come
abbrev pub so_far : Option Begun → ReportPart → Report
so_far None part = part.report
so_far (Some b) part = record b.report { members = b.report.members ++ part.report.members }

-- a report is whole, or the segment after this number is awaited
abbrev pub whole_or_more : Report → ℕ → Bool → Joined
whole_or_more r sub more = if more then More (record { report = r; next = sub + 1 }) else Whole r

-- what a PDU comes to after what was begun
abbrev pub joined : Option Begun → ReportPart → Joined
joined b part = whole_or_more (so_far b part) part.sub part.more

abbrev pub Joins : Option Begun → ReportPart → Result Joined JoinFault → Type 0
Joins b part (Ok j) = IsNext b part × (j ≡ joined b part)
Joins b part (Err Broken) = ¬ IsNext b part
Joins b part (Err Memory) = Unit {0}
