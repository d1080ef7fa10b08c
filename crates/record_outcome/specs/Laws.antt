-- What holds of every record, since it holds of every history: the laws of resuming and of the front.
use Rattle.std.specs.Prelude.{◌≡◌, ◌≤◌, ◌==◌, ℕ, true, false, List, ◌∷◌, ◌++◌, length, drop, Some}
use Rattle.sv_base.specs.declared.value.Value.TheVariants as kinds
use Rattle.sv_base.specs.declared.components.Comp.TheVariants.{EntryID}
use Rattle.bay_model.specs.Named.{configured_model}
use Rattle.bay_model.specs.Points.{wrote, Point, Past}
use Rattle.bay_model.specs.Answers.{points}
use Rattle.bay_model.specs.Blocks.{entry_id}
use Rattle.bay_model.specs.Lookups.{block_of}
use Rattle.bay_model.specs.Entries.{selected}
use Rattle.bay_model.specs.Retained.{sizes, front}
use Rattle.bay_model.specs.Successors.{AllNext, none_resumes, AreSuccessors}
use Rattle.record_outcome.specs.Histories.{Recorded, history_of}
use Rattle.record_outcome.specs.Texts.{turns_in}

-- the points of a record's history
abbrev pub points_of : Recorded → Past
points_of r = points (configured_model r.config) (turns_in r.steps)

-- of a record's lines, up to any of them: each report is of the next entry of its block
abbrev pub RecordsReportNext : Type 0
RecordsReportNext = (ls : List (List ℕ)) (r : Recorded) → history_of ls ≡ Some r → AllNext (configured_model r.config) (points_of r)

-- after an accepted EntryID above 0, until another is accepted, reports are of its successors still retained, each once, in order,
-- and one is marked exactly where unsent entries were discarded before it
abbrev pub RecordsResume : Type 0
RecordsResume = (ls : List (List ℕ)) (r : Recorded) → history_of ls ≡ Some r → (b a m n : ℕ) (octets : List ℕ) (ps : List Point) (before : Past)
    → points_of r ≡ ps ++ record { moment = m; step = n; deed = wrote a b EntryID (kinds.Octets octets) } ∷ before
    → (entry_id octets == 0) ≡ false → none_resumes b ps ≡ true
    → AreSuccessors (configured_model r.config) b (entry_id octets) (record { moment = m; step = n; deed = wrote a b EntryID (kinds.Octets octets) } ∷ before) ps

-- the front never falls, is no higher than the newest entry, and what is above it fits the capacity
abbrev pub RecordFrontsRise : Type 0
RecordFrontsRise = (ls : List (List ℕ)) (r : Recorded) → history_of ls ≡ Some r → (b : ℕ) (ps : List Point) (before : Past) → points_of r ≡ ps ++ before
    → front (configured_model r.config) b before ≤ front (configured_model r.config) b (points_of r)

abbrev pub RecordsRetainWhatFits : Type 0
RecordsRetainWhatFits = (ls : List (List ℕ)) (r : Recorded) → history_of ls ≡ Some r → (b : ℕ)
    → (front (configured_model r.config) b (points_of r) ≤ length (selected (configured_model r.config) b (points_of r)))
    × (sizes (drop (front (configured_model r.config) b (points_of r)) (selected (configured_model r.config) b (points_of r))) ≤ (block_of (configured_model r.config) b).capacity)
