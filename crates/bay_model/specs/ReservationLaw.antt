-- A law of a reserved block: its cursor is moved by associations of the reserved address alone (IEC 61850-7-2, BRCB attributes
-- ResvTms, Owner and EntryID; the cursor is this profile's own).
use Rattle.std.specs.Prelude.{◌≡◌, ◌≢◌, ⊤, ℕ, Bool, true, false, is_some, List, [], ◌∷◌, ◌++◌}
use Rattle.std.specs.Option.{option_map_or}
use Rattle.std.specs.Str.{bytes_eq}
use Rattle.sv_base.specs.declared.value.Value.{Value}
use Rattle.sv_base.specs.declared.components.Comp.TheVariants.{EntryID}
use Rattle.bay_model.specs.Model.{Model}
use Rattle.bay_model.specs.Points.{Deed, wrote, reported, Point, Past}
use Rattle.bay_model.specs.Associations.{ends, address}
use Rattle.bay_model.specs.Blocks.{is_enabled_by, cursor}
use Rattle.bay_model.specs.Reservations.{Reservation, reservation}
use Rattle.bay_model.specs.Singles.{arrival}
use Rattle.bay_model.specs.Answers.{History, points}
use Rattle.bay_model.specs.Acceptance.{IsHistory}

-- block b is reserved for this address
abbrev pub is_reserved_for : ℕ → List ℕ → Past → Bool
is_reserved_for b owner past = option_map_or (λ (r : Reservation). bytes_eq r.owner owner) (reservation b past) false

-- it is so at the moment of each of these points, which follow those of before
abbrev pub StaysReserved : ℕ → List ℕ → Past → List Point → Type 0
StaysReserved b owner before [] = ⊤
StaysReserved b owner before (p ∷ ps) = StaysReserved b owner before ps × (is_reserved_for b owner (arrival p.step p.moment ∷ (ps ++ before)) ≡ true)

-- the deed is of an association of this address
abbrev pub IsFrom : List ℕ → Past → Deed → Type 0
IsFrom owner before (wrote a b comp v) = address a before ≡ owner
IsFrom owner before (reported a b n) = address a before ≡ owner
IsFrom owner before _ = ⊥

-- After an accepted EntryID of an association of the address owner, while block b stays reserved for that address, each point
-- p that changes the block's cursor is of an association of that address.
abbrev pub MovedByOwner : Type 0
MovedByOwner = (c : Model) (h : History) (a b m n : ℕ) (v : Value) (owner : List ℕ) (later ps : List Point) (p : Point) (before : Past)
    → IsHistory c h → points c h ≡ later ++ p ∷ (ps ++ record { moment = m; step = n; deed = wrote a b EntryID v } ∷ before)
    → address a before ≡ owner
    → StaysReserved b owner (record { moment = m; step = n; deed = wrote a b EntryID v } ∷ before) (p ∷ ps)
    → cursor c b (p ∷ (ps ++ record { moment = m; step = n; deed = wrote a b EntryID v } ∷ before)) ≢ cursor c b (ps ++ record { moment = m; step = n; deed = wrote a b EntryID v } ∷ before)
    → IsFrom owner (ps ++ record { moment = m; step = n; deed = wrote a b EntryID v } ∷ before) p.deed

-- In every history of accepted steps, whoever has enabled a block is open.
abbrev pub EnablersAreOpen : Type 0
EnablersAreOpen = (c : Model) (h : History) (b a : ℕ) → IsHistory c h → is_enabled_by b a (points c h) ≡ true → is_some (ends a (points c h)) ≡ true
