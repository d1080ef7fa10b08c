-- That a client that writes an EntryID is sent the successors of that entry (IEC 61850-7-2, BRCB, resynchronization by
-- EntryID; the cursor and the front are this profile's own).
use Rattle.std.specs.Prelude.{◌≡◌, ⊤, ℕ, suc, max, ◌≤◌, ◌==◌, ◌&&◌, nat_lt, Bool, true, false, not, List, [], ◌∷◌, ◌++◌, length, Some, if◌then◌else◌}
use Rattle.sv_base.specs.declared.value.Value.TheVariants as kinds
use Rattle.sv_base.specs.declared.components.Comp.TheVariants.{EntryID}
use Rattle.bay_model.specs.Entries.{selected}
use Rattle.bay_model.specs.Retained.{front}
use Rattle.bay_model.specs.Model.{Model}
use Rattle.bay_model.specs.Points.{Deed, wrote, reported, Point, Past}
use Rattle.bay_model.specs.Blocks.{next, is_overflown, entry_id}
use Rattle.bay_model.specs.Singles.{arrival}
use Rattle.bay_model.specs.Answers.{History, points}

-- where a deed is the report of an entry, that was the next one at the moment of the step
abbrev pub IsNext : Model → Point → Past → Deed → Type 0
IsNext c p before (reported a b n) = next c b (arrival p.step p.moment ∷ before) ≡ Some n
IsNext c p before _ = ⊤

abbrev pub AllNext : Model → Past → Type 0
AllNext c [] = ⊤
AllNext c (p ∷ before) = AllNext c before × IsNext c p before p.deed

-- in every history each report was of the next entry of its block
abbrev pub ReportsAreNext : Type 0
ReportsAreNext = (c : Model) (h : History) → AllNext c (points c h)

-- an EntryID of block b was accepted
abbrev pub is_resumption : ℕ → Deed → Bool
is_resumption b (wrote a k EntryID v) = k == b
is_resumption b _ = false

-- at these points no EntryID of block b was accepted
abbrev pub none_resumes : ℕ → List Point → Bool
none_resumes b [] = true
none_resumes b (p ∷ ps) = not (is_resumption b p.deed) && none_resumes b ps

abbrev pub sent_number : ℕ → Deed → ℕ → ℕ
sent_number b (reported a k n) was = if k == b then n else was
sent_number b _ was = was

-- the number of the newest report of block b at these points, else k
abbrev pub last_sent : ℕ → ℕ → List Point → ℕ
last_sent b k [] = k
last_sent b k (p ∷ ps) = sent_number b p.deed (last_sent b k ps)

-- A deed that is a report of block b is of the least number above was, the one that was sent last, and the front; that
-- entry is there; and the report is marked exactly where was is below the front.
abbrev pub IsSuccessor : Model → ℕ → Point → ℕ → Past → Deed → Type 0
IsSuccessor c b p was before (reported a k n) = k ≡ b
    → (n ≡ suc (max was (front c b (arrival p.step p.moment ∷ before)))) × (n ≤ length (selected c b (arrival p.step p.moment ∷ before)))
    × (is_overflown c b (arrival p.step p.moment ∷ before) ≡ nat_lt was (front c b (arrival p.step p.moment ∷ before)))
IsSuccessor c b p was before _ = ⊤

-- each report of block b at these points, which follow those of before, is of the successor of the one that was sent
-- last; the first of them, of k's
abbrev pub AreSuccessors : Model → ℕ → ℕ → Past → List Point → Type 0
AreSuccessors c b k before [] = ⊤
AreSuccessors c b k before (p ∷ ps) = AreSuccessors c b k before ps × IsSuccessor c b p (last_sent b k ps) (ps ++ before) p.deed

-- After an accepted EntryID k above 0, until another is accepted, the reports are of the successors that are still
-- retained, each once, in order, and the first after unsent entries were discarded is marked.
abbrev pub ResumesAfter : Type 0
ResumesAfter = (c : Model) (h : History) (b a m n : ℕ) (octets : List ℕ) (ps : List Point) (before : Past)
    → points c h ≡ ps ++ record { moment = m; step = n; deed = wrote a b EntryID (kinds.Octets octets) } ∷ before
    → (entry_id octets == 0) ≡ false → none_resumes b ps ≡ true
    → AreSuccessors c b (entry_id octets) (record { moment = m; step = n; deed = wrote a b EntryID (kinds.Octets octets) } ∷ before) ps
