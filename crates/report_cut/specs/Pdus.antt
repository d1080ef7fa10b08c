-- The PDUs of a report (IEC 61850-8-1, segmentation of reports).
use Rattle.std.specs.Prelude.{◌≡◌, ℕ, suc, ◌≤◌, ◌<◌, ◌⊎◌, Bool, true, false, nat_le, List, [], ◌∷◌, length, Some, None, if◌then◌else◌}
use Rattle.bay_model.specs.declared.report.Report.{Report}
use Rattle.bay_model.specs.declared.report.Member.{Member}
use Rattle.report_cut.specs.Fields.{pdu}
use Rattle.report_cut.specs.Cutting.{cut_from, concat, AllFit, AreFull}

-- whether a segment of this number can have these members; MoreSegmentsFollow is as long either way
abbrev pub fits : Report → ℕ → ℕ → List Member → Bool
fits r size sub ms = nat_le (length (pdu r (Some (record { sub = sub; more = true })) ms)) size

-- the PDUs of segments from a number on; more follow all but the last
abbrev pub spelled : Report → ℕ → List (List Member) → List (List ℕ)
spelled r sub [] = []
spelled r sub (s ∷ []) = pdu r (Some (record { sub = sub; more = false })) s ∷ []
spelled r sub (s ∷ t ∷ ss) = pdu r (Some (record { sub = sub; more = true })) s ∷ spelled r (suc sub) (t ∷ ss)

-- one PDU where that fits the size, else segments
abbrev pub pdus : Report → ℕ → List (List ℕ)
pdus r size = if nat_le (length (pdu r None r.members)) size then pdu r None r.members ∷ [] else spelled r 0 (cut_from (fits r size) 0 r.members)

-- the members of segments: each has members that fit, all together have each member of the report once and in order, and
-- none but the last could take one more
pub record AreSegments (r : Report) (size : ℕ) (ss : List (List Member)) : Type 0 where
  pub fit : AllFit (fits r size) 0 ss
  pub whole : concat ss ≡ r.members
  pub full : AreFull (fits r size) 0 ss

-- the PDUs of a report, without saying how they are found: one where that fits the size, else those of segments
abbrev pub IsCut : Report → ℕ → List (List ℕ) → Type 0
IsCut r size ps = ((length (pdu r None r.members) ≤ size) × (ps ≡ pdu r None r.members ∷ []))
    ⊎ ((size < length (pdu r None r.members)) × (ss : List (List Member)) × AreSegments r size ss × (ps ≡ spelled r 0 ss))
