-- Laws of a block's entries: they are never renumbered, and the front is the least that the capacity allows and never
-- falls (IEC 61850-7-2, BRCB attribute EntryID; the front is this profile's own).
use Rattle.std.specs.Prelude.{◌≡◌, ◌≤◌, ◌<◌, ℕ, List, [], ◌∷◌, ◌++◌, length, drop}
use Rattle.bay_model.specs.Model.{Model}
use Rattle.bay_model.specs.Lookups.{block_of}
use Rattle.bay_model.specs.Points.{Point, Past}
use Rattle.bay_model.specs.Entries.{Entry, selected}
use Rattle.bay_model.specs.Retained.{sizes, least_dropped, front}

-- the one list begins with the other
abbrev pub BeginsWith : {A : Type 0} → List A → List A → Type 0
BeginsWith {A} ys xs = (rest : List A) × (ys ≡ xs ++ rest)

-- After more points, ps, the entries begin with those that were there before: none is changed, renumbered or lost.
abbrev pub EntriesStay : Type 0
EntriesStay = (c : Model) (b : ℕ) (ps : List Point) (before : Past) → BeginsWith (selected c b (ps ++ before)) (selected c b before)

-- Of the oldest entries, the least number is dropped without which the others fit the capacity.
abbrev pub FrontIsLeast : Type 0
FrontIsLeast = (capacity : ℕ) (es : List Entry)
    → (sizes (drop (least_dropped capacity es) es) ≤ capacity) × (least_dropped capacity es ≤ length es)
    × ((n : ℕ) → n < least_dropped capacity es → capacity < sizes (drop n es))

-- That number doesn't fall as an entry comes.
abbrev pub DroppedNeverFalls : Type 0
DroppedNeverFalls = (capacity : ℕ) (es : List Entry) (e : Entry) → least_dropped capacity es ≤ least_dropped capacity (es ++ e ∷ [])

-- The front never falls as more points come.
abbrev pub FrontNeverFalls : Type 0
FrontNeverFalls = (c : Model) (b : ℕ) (ps : List Point) (before : Past) → front c b before ≤ front c b (ps ++ before)

-- It is at most the number of the newest entry, and what is retained fits the capacity.
abbrev pub FrontIsWithin : Type 0
FrontIsWithin = (c : Model) (b : ℕ) (past : Past) → front c b past ≤ length (selected c b past)

abbrev pub RetainedFit : Type 0
RetainedFit = (c : Model) (b : ℕ) (past : Past) → sizes (drop (front c b past) (selected c b past)) ≤ (block_of c b).capacity
