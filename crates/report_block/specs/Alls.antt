-- All members of a data set for one reason, as an integrity entry and a general interrogation have them (IEC 61850-7-2, BRCB
-- attributes IntgPd and GI).
use Rattle.std.specs.Prelude.{ℕ, suc, true, List, [], ◌∷◌}
use Rattle.bay_model.specs.declared.note.Mention.{Mention}
use Rattle.bay_model.specs.declared.report.Reasons.{Reasons}
use Rattle.bay_model.specs.declared.tables.MemberShape.{MemberShape}
use Rattle.bay_model.specs.Notes.{no_reason}
use Rattle.value_store.specs.Stored.{Stored}
use Rattle.window_core.specs.Pieces.{Piece}
use Rattle.report_block.specs.Events.{pieces_of}

abbrev pub for_integrity : Reasons
for_integrity = record no_reason { intg = true }

abbrev pub for_general : Reasons
for_general = record no_reason { gi = true }

-- all members, numbered from i on
abbrev pub all_from : Reasons → ℕ → List MemberShape → List Mention
all_from r i [] = []
all_from r i (s ∷ shapes) = record { member = record { 0 = i }; reasons = r } ∷ all_from r (suc i) shapes

-- with what is kept of each
abbrev pub all_pieces : List Stored → List MemberShape → Reasons → List Piece
all_pieces stored shapes r = pieces_of stored shapes (all_from r 1 shapes)
