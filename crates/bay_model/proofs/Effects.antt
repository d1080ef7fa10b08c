-- A point's entries in two parts: what the passing of time brings at its moment, and then what its deed brings.
use Rattle.std.proofs.Common.{◌≡◌, ℕ, Bool, true, false, not, List, [], ◌∷◌, refl, sym, ap, ◌∙◌}
use Rattle.std.specs.Prelude.{if◌then◌else◌, ◌||◌, ◌&&◌}
use Rattle.std.specs.List.{list_any}
use Rattle.bay_model.specs.Model.{Model}
use Rattle.bay_model.specs.Points.{Deed, nothing, Point, Past, now}
use Rattle.bay_model.specs.Notes.{note, all_members, no_reason}
use Rattle.bay_model.specs.Breaks.{breaks, cuts, integrity, is_empty}
use Rattle.bay_model.specs.Groups.{Event, shares, is_over, is_broken, if_open, open_group, newest, groups, events}
use Rattle.bay_model.specs.Entries.{Entry, selected, appended, group_entry, closed_entry, integrity_entry, general_entry, own_entry}
use Rattle.bay_model.proofs.OpenGroup.{open_group-quiet}

abbrev only_if : Bool → Entry → List Entry
only_if t e = if t then e ∷ [] else []

-- i integrity, x the deed breaks, o the buffer time is over, n there is an event, s it shares a member
choose : (s : List Entry) (g j : Entry) (i x o n sh : Bool)
    → appended (appended s (only_if ((i || x) || o || (n && not (not ((i || x) || false) && not o && not sh))) g)) (only_if i j)
    ≡ appended (appended (appended s (only_if ((i || false) || o || false) g)) (only_if i j)) (if (i || false) || o then [] else only_if (x || (n && sh)) g)
choose s g j true x o n sh = refl
choose s g j false true true n sh = refl
choose s g j false true false n sh = refl
choose s g j false false true n sh = refl
choose s g j false false false true true = refl
choose s g j false false false true false = refl
choose s g j false false false false sh = refl

module _ (c : Model) (b m n : ℕ) (d : Deed) (before : Past) where
  abbrev pub at : Deed → Point
  at d = record { moment = m; step = n; deed = d }

  -- the entry of the group that is open at the moment and that the deed closes
  abbrev pub closed_then : List Event → List Entry
  closed_then [] = []
  closed_then (e ∷ es) = if cuts c b d before || (not (is_empty (note c b (at d) before)) && list_any (λ (f : Event). shares (note c b (at d) before) f.note) (e ∷ es)) then group_entry n e es ∷ [] else []

  then-if : (t : Bool) (e : Event) (es : List Event) → (if t then [] else closed_then (e ∷ es)) ≡ closed_then (if t then [] else e ∷ es)
  then-if true e es = refl
  then-if false e es = refl

  closes : (g : List Event)
      → appended (appended (selected c b before) (closed_entry c b (at d) before (if_open (is_broken c b before) (now before) g))) (integrity_entry c b (at d) before)
      ≡ appended (appended (appended (selected c b before) (closed_entry c b (at nothing) before (if_open (is_broken c b before) (now before) g))) (integrity_entry c b (at nothing) before))
      (closed_then (if_open (breaks c b (at nothing) before) (now (at nothing ∷ before)) (if_open (is_broken c b before) (now before) g)))
  closes [] = refl
  closes (e ∷ es) = either (is_broken c b before) refl (is_over e es (now before)) refl where
    either : (x : Bool) → is_broken c b before ≡ x → (t : Bool) → is_over e es (now before) ≡ t
        → appended (appended (selected c b before) (closed_entry c b (at d) before (if x || t then [] else e ∷ es))) (integrity_entry c b (at d) before)
        ≡ appended (appended (appended (selected c b before) (closed_entry c b (at nothing) before (if x || t then [] else e ∷ es))) (integrity_entry c b (at nothing) before))
        (closed_then (if_open (breaks c b (at nothing) before) (now (at nothing ∷ before)) (if x || t then [] else e ∷ es)))
    either true is t it = refl
    either false is true it = refl
    either false is false it = rw is (choose (selected c b before) (group_entry n e es) (record { moment = now (at d ∷ before); step = n; members = all_members c b (record no_reason { intg = true }) before before }) (integrity c b (at d) before) (cuts c b d before) (is_over e es (now (at d ∷ before))) (not (is_empty (note c b (at d) before))) (list_any (λ (f : Event). shares (note c b (at d) before) f.note) (e ∷ es))
        ∙ ap (appended (appended (appended (selected c b before) (closed_entry c b (at nothing) before (e ∷ es))) (integrity_entry c b (at nothing) before))) (then-if (breaks c b (at nothing) before || is_over e es (now (at nothing ∷ before))) e es))

  pub selected-effect : selected c b (at d ∷ before) ≡ appended (appended (appended (selected c b (at nothing ∷ before)) (closed_then (open_group c b (at nothing ∷ before)))) (general_entry c b (at d) before)) (own_entry c b (at d) before (note c b (at d) before))
  selected-effect = ap (λ es. appended (appended es (general_entry c b (at d) before)) (own_entry c b (at d) before (note c b (at d) before)))
      (closes (newest (groups (events c b before))) ∙ sym (ap (λ g. appended (selected c b (at nothing ∷ before)) (closed_then g)) (open_group-quiet c b (at nothing) before refl)))
