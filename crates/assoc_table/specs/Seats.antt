-- One association: its ends where it is open, and what waits for it, the oldest first.
use Rattle.std.specs.Prelude.{◌≡◌, ◌≤◌, ◌<◌, ℕ, suc, Bool, true, false, List, [], ◌∷◌, ◌==◌, ◌&&◌, nat_le, Option, None, Result, Ok, Err, if◌then◌else◌}
use Rattle.std.specs.List.{list_any}
use Rattle.assoc_table.specs.declared.waiting.Ends.{Ends}
use Rattle.assoc_table.specs.declared.waiting.Full.{Full}
use Rattle.assoc_table.specs.declared.waiting.Waiting.{Waiting}
use Rattle.assoc_table.specs.declared.waiting.Waiting.TheVariants.{Reply, Termination}

pub record Row : Type 0 where
  pub ends : Option Ends
  pub waiting : List Waiting

-- it isn't open
abbrev pub closed : Row
closed = record { ends = None; waiting = [] }

abbrev pub is_reply : Waiting → Bool
is_reply (Reply output) = true
is_reply (Termination k good) = false

abbrev pub replies : List Waiting → ℕ
replies [] = 0
replies (Reply output ∷ ws) = suc (replies ws)
replies (Termination k good ∷ ws) = replies ws

-- the controls whose termination waits
abbrev pub controls : List Waiting → List ℕ
controls [] = []
controls (Reply output ∷ ws) = controls ws
controls (Termination k good ∷ ws) = k.0 ∷ controls ws

-- no two are the same
abbrev pub AreApart : List ℕ → Type 0
AreApart [] = Unit {0}
AreApart (k ∷ ks) = (list_any (λ l. k == l) ks ≡ false) × AreApart ks

-- of 64 controls at most one termination each, and no more than 16 replies
pub record IsQueue (ws : List Waiting) : Type 0 where
  pub few : replies ws ≤ 16
  pub apart : AreApart (controls ws)
  pub below : (k : ℕ) → list_any (λ l. k == l) (controls ws) ≡ true → k < 64

-- no termination of the item's control waits
abbrev pub IsNew : Waiting → List Waiting → Type 0
IsNew (Reply output) ws = Unit {0}
IsNew (Termination k good) ws = (k.0 < 64) × (list_any (λ l. k.0 == l) (controls ws) ≡ false)

-- a 17th reply does not fit
abbrev pub outcome : Waiting → List Waiting → Result (Unit {0}) Full
outcome item ws = if is_reply item && nat_le 16 (replies ws) then Err (record {}) else Ok tt
