-- What the PDUs of a report say of it.
use Rattle.std.specs.Prelude.{ℕ, suc, Bool, true, false, nat_le, List, [], ◌∷◌, length, map, Option, Some, None, if◌then◌else◌, ◌<◌, ◌≤◌, ◌^◌, slice_index}
use Rattle.std.specs.List.{AllByRecursion}
use Rattle.ber_grammar.specs.Content.{IsVisible}
use Rattle.bay_model.specs.Parameters.{bit}
use Rattle.bay_model.specs.declared.report.Report.{Report}
use Rattle.bay_model.specs.declared.report.Member.{Member}
use Rattle.report_cut.specs.declared.segment.Segment.{Segment}
use Rattle.report_cut.specs.declared.part.ReportPart.{ReportPart}
use Rattle.report_cut.specs.Fields.{flags, pdu}
use Rattle.report_cut.specs.Cutting.{cut_from}
use Rattle.report_cut.specs.Pdus.{fits}
use Rattle.report_cut.specs.Part.{IsReportPart, no_reasons}

-- a member, without the reference and the reasons where they are not asked for
abbrev pub told_member : Bool → Bool → Member → Member
told_member referred reasoned m = record { number = m.number; reference = if referred then m.reference else []; octets = m.octets; reasons = if reasoned then m.reasons else no_reasons }

abbrev pub sub_of : Option Segment → ℕ
sub_of None = 0
sub_of (Some s) = s.sub

abbrev pub more_of : Option Segment → Bool
more_of None = false
more_of (Some s) = s.more

-- the fields that OptFlds asks for, and these members
abbrev pub told : Report → Option Segment → List Member → ReportPart
told r segment ms = record {
  report = record {
    block = record { 0 = 0 };
    rpt_id = r.rpt_id;
    opt_flds = flags r.opt_flds segment;
    sq = if bit 1 r.opt_flds then r.sq else 0;
    time = if bit 2 r.opt_flds then r.time else 441763200000;
    dat_set = if bit 4 r.opt_flds then r.dat_set else [];
    ovfl = if bit 6 r.opt_flds then r.ovfl else false;
    id = if bit 7 r.opt_flds then r.id else 0;
    conf_rev = if bit 8 r.opt_flds then r.conf_rev else 0;
    total = r.total;
    members = map (told_member (bit 5 r.opt_flds) (bit 3 r.opt_flds)) ms;
  };
  sub = sub_of segment;
  more = more_of segment;
}

-- of segments from a number on; more follow all but the last
abbrev pub parts_from : Report → ℕ → List (List Member) → List ReportPart
parts_from r sub [] = []
parts_from r sub (s ∷ []) = told r (Some (record { sub = sub; more = false })) s ∷ []
parts_from r sub (s ∷ t ∷ ss) = told r (Some (record { sub = sub; more = true })) s ∷ parts_from r (suc sub) (t ∷ ss)

-- of the PDUs of a report
abbrev pub parts : Report → ℕ → List ReportPart
parts r size = if nat_le (length (pdu r None r.members)) size then told r None r.members ∷ [] else parts_from r 0 (cut_from (fits r size) 0 r.members)

-- each PDU says what stands beside it
abbrev pub AreParts : List (List ℕ) → List ReportPart → Type 0
AreParts [] [] = Unit {0}
AreParts [] (t ∷ ts) = ⊥
AreParts (p ∷ ps) [] = ⊥
AreParts (p ∷ ps) (t ∷ ts) = IsReportPart p t × AreParts ps ts

abbrev pub AreVisible : List ℕ → Type 0
AreVisible octets = (k : ℕ) → k < length octets → IsVisible (slice_index octets k)

-- The texts are visible strings. The numbers are within their types, as those of the program are.
pub record CanBeRead (r : Report) : Type 0 where
  pub rpt_id : AreVisible r.rpt_id
  pub dat_set : AreVisible r.dat_set
  pub references : AllByRecursion (λ m. AreVisible m.reference) r.members
  pub sq : r.sq < 65536
  pub first : 441763200000 ≤ r.time
  pub last : r.time ≤ 4294967295999
  pub id : r.id < 2 ^ 64
  pub conf_rev : r.conf_rev < 2 ^ 32
