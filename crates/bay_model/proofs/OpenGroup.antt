-- The open group after one more point: a point without an event may close it, and an event goes into it or begins
-- the next.
use Rattle.std.proofs.Common.{◌≡◌, ℕ, ◌≤◌, ◌<◌, ◌+◌, Bool, true, false, not, List, [], ◌∷◌, refl, ap, arith, ◌⊎◌, inl, inr}
use Rattle.std.specs.Prelude.{if◌then◌else◌, nat_le, ◌||◌, ◌&&◌}
use Rattle.std.proofs.lemmas.Bool.Decides.{leb_tells}
use Rattle.bay_model.specs.Model.{Model}
use Rattle.bay_model.specs.Points.{Point, Past, now}
use Rattle.bay_model.specs.Notes.{note}
use Rattle.bay_model.specs.Breaks.{breaks, is_empty}
use Rattle.std.specs.List.{list_any}
use Rattle.bay_model.specs.Groups.{Event, is_over, shares, continues, place, groups, events, event_of, is_broken, newest, if_open, open_group, first}
use Rattle.list_laws.proofs.Truths.{or-all, or-none}

-- an event goes into the group before it, or begins one
abbrev pub joined : Event → List Event → List Event
joined q [] = q ∷ []
joined q (e ∷ es) = if continues q e es then q ∷ e ∷ es else q ∷ []

newest-place : (q : Event) (gs : List (List Event)) → newest (place q gs) ≡ joined q (newest gs)
newest-place q [] = refl
newest-place q ([] ∷ gs) = refl
newest-place q ((e ∷ es) ∷ gs) = either (continues q e es) where
  either : (t : Bool) → newest (if t then (q ∷ e ∷ es) ∷ gs else (q ∷ []) ∷ (e ∷ es) ∷ gs) ≡ (if t then q ∷ e ∷ es else q ∷ [])
  either true = refl
  either false = refl

-- a test that passed at a moment passes later
later : (d m n : ℕ) → m ≤ n → nat_le d m ≡ true → nat_le d n ≡ true
later d m n h is = either (leb_tells d m) (leb_tells d n) where
  either : ((nat_le d m ≡ true) × (d ≤ m)) ⊎ ((nat_le d m ≡ false) × (m < d)) → ((nat_le d n ≡ true) × (d ≤ n)) ⊎ ((nat_le d n ≡ false) × (n < d)) → nat_le d n ≡ true
  either a (inl b) = b.0
  either (inl a) (inr b) = absurd (omega (arith, a.1, b.1, h))
  either (inr a) (inr b) = cc (a.0, is)

pub if_open-more : (x y : Bool) (m n : ℕ) (g : List Event) → m ≤ n → if_open (x || y) n g ≡ if_open x n (if_open y m g)
if_open-more x y m n [] h = refl
if_open-more x true m n (e ∷ es) h = rw (or-all x) refl
if_open-more x false m n (e ∷ es) h = either (is_over e es m) refl where
  either : (t : Bool) → is_over e es m ≡ t
      → (if (x || false) || is_over e es n then [] else e ∷ es) ≡ if_open x n (if t then [] else e ∷ es)
  either true is = rw (or-none x, later ((first e es).moment + (first e es).buf_tm) m n h is, or-all x) refl
  either false is = rw (or-none x) refl

module _ (c : Model) (b : ℕ) (p : Point) (before : Past) where
  -- a point without an event leaves the group or closes it
  pub open_group-quiet : is_empty (note c b p before) ≡ true → open_group c b (p ∷ before) ≡ if_open (breaks c b p before) (now (p ∷ before)) (open_group c b before)
  open_group-quiet h = rw h (if_open-more (breaks c b p before) (is_broken c b before) (now before) (now (p ∷ before)) (newest (groups (events c b before))) (omega arith))

  -- the event goes into the group that is open, or begins one
  pub open_group-event : is_empty (note c b p before) ≡ false → open_group c b (p ∷ before) ≡ if_open false (now (p ∷ before)) (joined (event_of c b p before) (open_group c b before))
  open_group-event h = rw (h, newest-place (event_of c b p before) (groups (events c b before))) (ap (if_open false (now (p ∷ before))) (same (newest (groups (events c b before))))) where
    same : (g : List Event) → joined (event_of c b p before) g ≡ joined (event_of c b p before) (if_open (is_broken c b before) (now before) g)
    same [] = refl
    same (e ∷ es) = either (is_broken c b before) refl (is_over e es (now before)) refl where
      either : (x : Bool) → is_broken c b before ≡ x → (t : Bool) → is_over e es (now before) ≡ t
          → joined (event_of c b p before) (e ∷ es) ≡ joined (event_of c b p before) (if x || t then [] else e ∷ es)
      either true is t it = rw (is, or-all (breaks c b p before)) refl
      either false is true it = rw (later ((first e es).moment + (first e es).buf_tm) (now before) (now (p ∷ before)) (omega arith) it) (none (not (breaks c b p before || is_broken c b before))) where
        none : (x : Bool) → (if x && false && not (list_any (λ (f : Event). shares (note c b p before) f.note) (e ∷ es)) then event_of c b p before ∷ e ∷ es else event_of c b p before ∷ []) ≡ event_of c b p before ∷ []
        none true = refl
        none false = refl
      either false is false it = refl
