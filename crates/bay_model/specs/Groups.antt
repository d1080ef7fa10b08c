-- How a block gathers its events under its buffer time (IEC 61850-7-2, BRCB attribute BufTm): a relation between its
-- events and groups of them, and the function that is its one solution. The newest event, and the newest group, come
-- first.
use Rattle.std.specs.Prelude.{◌≡◌, ℕ, ◌+◌, Bool, true, false, not, ◌&&◌, ◌||◌, ◌==◌, nat_le, List, [], ◌∷◌, if◌then◌else◌}
use Rattle.std.specs.List.{list_any}
use Rattle.bay_model.specs.Model.{Model}
use Rattle.bay_model.specs.Points.{Past, now}
use Rattle.bay_model.specs.Notes.{Kept}
pub use Rattle.bay_model.specs.Events.{Event, is_broken, event_of, events}

-- the two notes have a member in common
abbrev pub shares : List Kept → List Kept → Bool
shares ns ms = list_any (λ (n : Kept). list_any (λ (m : Kept). n.number == m.number) ms) ns

-- the first of a group's events: e is the newest, es are those before it
abbrev pub first : Event → List Event → Event
first e [] = e
first e (f ∷ fs) = first f fs

-- at a moment the group of e and the earlier events es is over: its first event's moment and BufTm have passed
abbrev pub is_over : Event → List Event → ℕ → Bool
is_over e es moment = nat_le ((first e es).moment + (first e es).buf_tm) moment

-- Event q goes into the group of the event before it, e, whose earlier events are es: no point since e broke the block,
-- the buffer time of the group isn't over, and no member of q's note stands in the group.
abbrev pub continues : Event → Event → List Event → Bool
continues q e es = not q.is_cut && not (is_over e es q.moment) && not (list_any (λ (f : Event). shares q.note f.note) (e ∷ es))

-- The events are cut into consecutive groups: the newest event is alone in its group, and then it doesn't continue the
-- group before, or it stands in one that it continues.
abbrev pub AreGroups : List Event → List (List Event) → Type 0
AreGroups [] gs = gs ≡ []
AreGroups (q ∷ qs) [] = ⊥
AreGroups (q ∷ qs) ([] ∷ gs) = ⊥
AreGroups (q ∷ qs) ((f ∷ []) ∷ []) = (f ≡ q) × AreGroups qs []
AreGroups (q ∷ qs) ((f ∷ []) ∷ [] ∷ gs) = ⊥
AreGroups (q ∷ qs) ((f ∷ []) ∷ (e ∷ es) ∷ gs) = (f ≡ q) × AreGroups qs ((e ∷ es) ∷ gs) × (continues q e es ≡ false)
AreGroups (q ∷ qs) ((f ∷ e ∷ es) ∷ gs) = (f ≡ q) × AreGroups qs ((e ∷ es) ∷ gs) × (continues q e es ≡ true)

-- where the next event goes
abbrev pub place : Event → List (List Event) → List (List Event)
place q [] = (q ∷ []) ∷ []
place q ([] ∷ gs) = (q ∷ []) ∷ gs
place q ((e ∷ es) ∷ gs) = if continues q e es then (q ∷ e ∷ es) ∷ gs else (q ∷ []) ∷ (e ∷ es) ∷ gs

abbrev pub groups : List Event → List (List Event)
groups [] = []
groups (q ∷ qs) = place q (groups qs)

-- the function gives groups of the relation, and they are the only ones
abbrev pub GroupsAre : Type 0
GroupsAre = (qs : List Event) → AreGroups qs (groups qs)

abbrev pub GroupsAreOne : Type 0
GroupsAreOne = (qs : List Event) (gs : List (List Event)) → AreGroups qs gs → gs ≡ groups qs

-- the newest group, with no event where there is none
abbrev pub newest : List (List Event) → List Event
newest [] = []
newest (g ∷ gs) = g

-- the group where nothing closed it up to a moment: the block wasn't broken since its last event, and its buffer time
-- isn't over
abbrev pub if_open : Bool → ℕ → List Event → List Event
if_open broken moment [] = []
if_open broken moment (e ∷ es) = if broken || is_over e es moment then [] else e ∷ es

-- The newest group where no point up to the last of past closed it, else no event. With BufTm 0 the moment of its only
-- event closes it.
abbrev pub open_group : Model → ℕ → Past → List Event
open_group c b past = if_open (is_broken c b past) (now past) (newest (groups (events c b past)))
