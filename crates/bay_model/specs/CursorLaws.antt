-- Laws of a block's cursor: while the block is enabled it stands still but for reports, and each report raises it
-- (the cursor is this profile's own; IEC 61850-7-2 refuses an EntryID while RptEna is TRUE).
use Rattle.std.specs.Prelude.{◌≡◌, ◌<◌, ◌==◌, ℕ, Bool, true, false, List, ◌∷◌, ◌++◌, is_some}
use Rattle.bay_model.specs.Model.{Model}
use Rattle.bay_model.specs.Points.{Deed, reported, Point, Past}
use Rattle.bay_model.specs.Blocks.{enabler, cursor}
use Rattle.bay_model.specs.Answers.{History, points}

-- the deed is a report of block b
abbrev pub is_report : ℕ → Deed → Bool
is_report b (reported a k n) = k == b
is_report b _ = false

-- At each point p of a history after which block b is still enabled, and that is no report of b, its cursor is as it was.
abbrev pub CursorRests : Type 0
CursorRests = (c : Model) (h : History) (b : ℕ) (ps : List Point) (p : Point) (before : Past)
    → points c h ≡ ps ++ p ∷ before → is_some (enabler b (p ∷ before)) ≡ true → is_report b p.deed ≡ false
    → cursor c b (p ∷ before) ≡ cursor c b before

-- At each point p of a history that is a report of entry n of block b, its cursor becomes n, which is greater than it was.
abbrev pub ReportsRaise : Type 0
ReportsRaise = (c : Model) (h : History) (a b n : ℕ) (ps : List Point) (p : Point) (before : Past)
    → points c h ≡ ps ++ p ∷ before → p.deed ≡ reported a b n
    → (cursor c b (p ∷ before) ≡ n) × (cursor c b before < n)
