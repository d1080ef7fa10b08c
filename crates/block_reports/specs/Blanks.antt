-- A report in memory that was allocated before, so that to fill it takes no memory (IEC 61850-7-2, the Report service).
use Rattle.std.specs.Prelude.{◌≤◌, ℕ, List, [], ◌∷◌, length, max, vec_capacity}
use Rattle.std.specs.List.{All}
use Rattle.bay_model.specs.declared.report.Member.{Member}
use Rattle.bay_model.specs.declared.tables.MemberShape.{MemberShape}
use Rattle.bay_model.specs.Model.{Model}
use Rattle.bay_model.specs.Notes.{Kept}
use Rattle.bay_model.specs.Reports.{report_id, reference_at}
use Rattle.set_view.specs.Shapes.{node_numbers}
use Rattle.report_block.specs.declared.block.ReportBlock.{ReportBlock}
use Rattle.block_reports.specs.declared.member_rooms.MemberRoom.{MemberRoom}
use Rattle.block_reports.specs.Again.{AreKept}
use Rattle.report_block.specs.Standing.{AreKeptMembers}

-- memory for the reference of a member and for its Data
abbrev pub IsRoom : MemberRoom → Type 0
IsRoom r = (129 ≤ vec_capacity r.reference) × (500 ≤ vec_capacity r.octets)

-- the members so far, and how many more have capacity
pub record Row : Type 0 where
  pub items : List Member
  pub left : ℕ

-- how many octets RptID and DatSet may have each, and how many members there may be
pub record Blank : Type 0 where
  pub texts : ℕ
  pub members : ℕ

-- the texts of a block's reports have at most n octets each
abbrev pub AreShortTexts : ℕ → ReportBlock → Type 0
AreShortTexts most part = (length (report_id part.block.options.rpt_id part.block.reference) ≤ most) × (length part.block.options.dat_set ≤ most)

-- how many octets the longest RptID or DatSet in the reports of blocks has
abbrev pub longest_text_in : List ReportBlock → ℕ
longest_text_in [] = 0
longest_text_in (part ∷ parts) = max (max (length (report_id part.block.options.rpt_id part.block.reference)) (length part.block.options.dat_set)) (longest_text_in parts)

-- the references of these nodes have at most 129 octets
abbrev pub AreShort : Model → List ℕ → Type 0
AreShort c nodes = All (λ n. length (reference_at c n) ≤ 129) nodes

abbrev pub IsShortSet : Model → List MemberShape → Type 0
IsShortSet c shapes = AreShort c (node_numbers shapes)

-- the octets are those that are kept of these members, which are at most that many, each with one Data of at most 500 octets
pub record AreFew (most : ℕ) (octets : List ℕ) (ks : List Kept) : Type 0 where
  pub kept : AreKept octets ks
  pub sound : AreKeptMembers ks
  pub few : length ks ≤ most
