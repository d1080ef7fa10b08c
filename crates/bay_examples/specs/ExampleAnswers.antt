-- Answers of worked histories over the example bay: reports of its block, with the members of its data set.
use Rattle.std.specs.Prelude.{ℕ, ◌+◌, Bool, true, false, List, [], ◌∷◌, Ok, Err, codes}
use Rattle.bay_model.specs.declared.answer.Answer.{Answer}
use Rattle.bay_model.specs.declared.answer.Answer.TheVariants as answers
use Rattle.bay_model.specs.declared.answer.Output.TheVariants as outputs
use Rattle.bay_model.specs.declared.report.Member.{Member}
use Rattle.bay_model.specs.declared.report.Reasons.{Reasons}
use Rattle.bay_model.specs.Points.{least_moment}
use Rattle.bay_model.specs.Notes.{no_reason}
use Rattle.bay_examples.specs.Example.{options}

-- a write is accepted, or refused by a code
abbrev pub ok : Answer
ok = answers.Wrote (Ok tt)

abbrev pub refused : ℕ → Answer
refused code = answers.Wrote (Err code)

-- BufOvfl of a report
abbrev pub marked : Bool
marked = true

abbrev pub unmarked : Bool
unmarked = false

-- a report of block b: SqNum, EntryID, time after the least moment, BufOvfl and members
abbrev pub report_of : (b sq id ms : ℕ) → Bool → List Member → Answer
report_of b sq id ms ovfl members = answers.Taken (outputs.Report (record {
  block = record { 0 = b };
  rpt_id = codes "Ev1";
  opt_flds = options.opt_flds;
  sq = sq;
  time = least_moment + ms;
  dat_set = codes "BAY1/LLN0$Events";
  ovfl = ovfl;
  id = id;
  conf_rev = 1;
  total = 3;
  members = members;
}))

-- a report of the one block of the example
abbrev pub report : (sq id ms : ℕ) → Bool → List Member → Answer
report sq id ms ovfl members = report_of 0 sq id ms ovfl members

abbrev pub changed : Reasons
changed = record no_reason { dchg = true }

abbrev pub changed_in_quality : Reasons
changed_in_quality = record no_reason { qchg = true }

abbrev pub updated : Reasons
updated = record no_reason { dupd = true }

abbrev pub changed_and_updated : Reasons
changed_and_updated = record no_reason { dchg = true; dupd = true }

abbrev pub by_integrity : Reasons
by_integrity = record no_reason { intg = true }

abbrev pub by_interrogation : Reasons
by_interrogation = record no_reason { gi = true }

-- the Data of a quality, by its first octet, and of time 0
abbrev pub quality_and_time : ℕ → List ℕ
quality_and_time quality = 0x84 ∷ 3 ∷ 3 ∷ quality ∷ 0 ∷ 0x91 ∷ 8 ∷ 0 ∷ 0 ∷ 0 ∷ 0 ∷ 0 ∷ 0 ∷ 0 ∷ 0 ∷ []

-- the members: the position, whose two bits stand first in the octet; the indication, an octet of 0 or 255; and the power
abbrev pub position_of : ℕ → ℕ → Reasons → Member
position_of octet quality why = record { number = record { 0 = 1 }; reference = codes "BAY1/XCBR1$ST$Pos"; octets = 0xa2 ∷ 0x13 ∷ 0x84 ∷ 2 ∷ 6 ∷ octet ∷ quality_and_time quality; reasons = why }

abbrev pub position : ℕ → Reasons → Member
position octet why = position_of octet 0 why

abbrev pub indication : ℕ → Reasons → Member
indication octet why = record { number = record { 0 = 2 }; reference = codes "BAY1/GGIO1$ST$Ind1"; octets = 0xa2 ∷ 0x12 ∷ 0x83 ∷ 1 ∷ octet ∷ quality_and_time 0; reasons = why }

abbrev pub power : ℕ → Reasons → Member
power n why = record { number = record { 0 = 3 }; reference = codes "BAY1/MMXU1$MX$TotW$mag$i"; octets = 0x85 ∷ 1 ∷ n ∷ []; reasons = why }
