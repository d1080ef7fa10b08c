-- An SG attribute has the value of the active group; who holds the edit of a domain, and since when (IEC 61850-7-2, SGCB).
use Rattle.std.specs.Prelude.{◌≡◌, ◌≤◌, ◌==◌, ◌&&◌, ℕ, Bool, false, Some, ◌∷◌, ◌++◌}
use Rattle.std.specs.List.{All}
use Rattle.bay_model.specs.Model as model
use Rattle.bay_model.specs.Model.{Model}
use Rattle.bay_model.specs.Lookups.{attr_of}
use Rattle.bay_model.specs.Points.{Deed, Point, Past, lost, edited, confirmed}
use Rattle.bay_model.specs.Settings.{Edit, active, edit, stored, group}
use Rattle.bay_model.specs.Values.{value_at}
use Rattle.bay_model.specs.Answers.{History, points}

abbrev pub SettingsAre : Type 0
SettingsAre = (c : Model) (x : ℕ) → (attr_of c x).access ≡ model.active → (h : History)
    → value_at c x (points c h) ≡ stored c x (points c h) (group (active c (attr_of c x).domain (points c h)))

-- a's EditSG or CnfEdit in domain d, or its loss
abbrev pub is_of_edit : ℕ → ℕ → Deed → Bool
is_of_edit a d (edited b e n) = (b == a) && (e == d)
is_of_edit a d (confirmed b e) = (b == a) && (e == d)
is_of_edit a d (lost b) = b == a
is_of_edit a d _ = false

-- a's last accepted EditSG in domain d was of group n, above 0, and no accepted CnfEdit TRUE of a and no loss of a follows it
pub record HoldsSince (a d n : ℕ) (past : Past) : Type 0 where
  pub later : Past
  pub begun : Point
  pub before : Past
  pub split : past ≡ later ++ begun ∷ before
  pub deed : begun.deed ≡ edited a d n
  pub above : 1 ≤ n
  pub since : All (λ (p : Point). is_of_edit a d p.deed ≡ false) later

-- such an association holds the edit, who holds it is such an association, and there is one at most
abbrev pub HoldersEdit : Type 0
HoldersEdit = (c : Model) (h : History) (a d n : ℕ) → HoldsSince a d n (points c h) → edit d (points c h) ≡ Some (record { holder = a; group = n })

abbrev pub EditsAreHeld : Type 0
EditsAreHeld = (c : Model) (h : History) (d : ℕ) (e : Edit) → edit d (points c h) ≡ Some e → HoldsSince e.holder d e.group (points c h)

abbrev pub HolderIsOne : Type 0
HolderIsOne = (c : Model) (h : History) (a b d n m : ℕ) → HoldsSince a d n (points c h) → HoldsSince b d m (points c h) → a ≡ b
