-- The entries of a point in two parts, as a buffer gets them; and those that come are readable.
use Rattle.std.proofs.Common.{◌≡◌, ℕ, Bool, true, false, List, [], ◌∷◌, ◌++◌, length, refl, ap, ◌∙◌, map}
use Rattle.std.specs.Prelude.{if◌then◌else◌, nat_lt, ◌||◌}
use Rattle.std.specs.List.{All}
use Rattle.std.proofs.lemmas.List.Elements.{All-append, All-nil, All-cons, All-head, All-tail}
use Rattle.bay_model.specs.Model.{Model}
use Rattle.bay_model.specs.Points.{Deed, Point, Past}
use Rattle.bay_model.specs.Notes.{Kept, note}
use Rattle.bay_model.specs.Groups.{Event, is_over, if_open, open_group}
use Rattle.bay_model.specs.Entries.{Entry, selected, appended, last_number, gathered, insert, insert_all, closes, group_entry, closed_entry, integrity_entry, general_entry, own_entry}
use Rattle.bay_model.specs.Singles.{arrival}
use Rattle.bay_model.proofs.Effects.{selected-effect}
use Rattle.entry_ring.specs.Ringed.{Ringed, after_entry}
use Rattle.entry_ring.specs.Standing.{held, after_all}
use Rattle.window_core.specs.Pieces.{Piece}
use Rattle.window_core.specs.Standing.{bodies, piece_of}
use Rattle.window_core.specs.Points.{at, closed_then}
use Rattle.window_core.proofs.PieceLaws.{octets-same}
use Rattle.report_block.specs.Standing.{IsMemberKept, AreKeptMembers, IsReadable, IsReadableEvent}
use Rattle.report_block.specs.Coming.{after_bodies, body_at}

-- ---- bodies

appended-both : (s xs ys : List Entry) → appended (appended s xs) ys ≡ appended s (xs ++ ys)
appended-both s [] ys = refl
appended-both s (x ∷ xs) ys = appended-both (if nat_lt (length s) last_number then s ++ x ∷ [] else s) xs ys

pub bodies-all : (r : Ringed) (es : List Entry) → after_bodies r (bodies es) ≡ after_all r es
bodies-all r [] = refl
bodies-all r (e ∷ es) = bodies-all (after_entry r (held e)) es

pub bodies-append : (xs ys : List Entry) → bodies (xs ++ ys) ≡ bodies xs ++ bodies ys
bodies-append [] ys = refl
bodies-append (x ∷ xs) ys = ap (λ l. record { moment = x.moment; step = x.step; kept = (held x).kept } ∷ l) (bodies-append xs ys)

-- the entry of members, by their pieces
pub body-of-all : (now step : ℕ) (ps : List Piece) (ks : List Kept) → ps ≡ map piece_of ks → body_at now step ps ∷ [] ≡ bodies (record { moment = now; step = step; members = ks } ∷ [])
body-of-all now step ps ks are = ap (λ qs. body_at now step qs ∷ []) are ∙ ap (λ o. record { moment = now; step = step; kept = o } ∷ []) (octets-same ks)

module _ (c : Model) (b m n : ℕ) (before : Past) where
  -- what the moment of a point brings: what is gathered, where it closes, and then the integrity entry
  abbrev pub time_entries : List Entry
  time_entries = closed_entry c b (arrival n m) before (open_group c b before) ++ integrity_entry c b (arrival n m) before

  pub time-selected : selected c b (arrival n m ∷ before) ≡ appended (selected c b before) time_entries
  time-selected = appended-both (selected c b before) (closed_entry c b (arrival n m) before (open_group c b before)) (integrity_entry c b (arrival n m) before)

  -- what came of it: what is gathered, where it closes; then the general interrogation; then an event's own entry
  abbrev pub deed_entries : Deed → List Entry
  deed_entries d = closed_then c b n m d before (open_group c b (arrival n m ∷ before)) ++ (general_entry c b (at n m d) before ++ own_entry c b (at n m d) before (note c b (at n m d) before))

  pub deed-selected : (d : Deed) → selected c b (at n m d ∷ before) ≡ appended (selected c b (arrival n m ∷ before)) (deed_entries d)
  deed-selected d = selected-effect c b m n d before
      ∙ (appended-both (appended (selected c b (arrival n m ∷ before)) (closed_then c b n m d before (open_group c b (arrival n m ∷ before)))) (general_entry c b (at n m d) before) (own_entry c b (at n m d) before (note c b (at n m d) before))
      ∙ appended-both (selected c b (arrival n m ∷ before)) (closed_then c b n m d before (open_group c b (arrival n m ∷ before))) (general_entry c b (at n m d) before ++ own_entry c b (at n m d) before (note c b (at n m d) before)))

-- ---- readable

-- the entries that come are readable, as are those that were there
pub readable-appended : (so_far es : List Entry) → All IsReadable so_far → All IsReadable es → All IsReadable (appended so_far es)
readable-appended so_far [] h all = h
readable-appended so_far (e ∷ es) h all = readable-appended (if nat_lt (length so_far) last_number then so_far ++ e ∷ [] else so_far) es (either (nat_lt (length so_far) last_number)) (All-tail IsReadable e es all) where
  either : (t : Bool) → All IsReadable (if t then so_far ++ e ∷ [] else so_far)
  either true = All-append IsReadable so_far (e ∷ []) h (All-cons IsReadable e [] (All-head IsReadable e es all) (All-nil IsReadable))
  either false = h

pub readable-one : (e : Entry) → IsReadable e → All IsReadable (e ∷ [])
readable-one e is = All-cons IsReadable e [] is (All-nil IsReadable)

pub readable-if : (t : Bool) (e : Entry) → (t ≡ true → IsReadable e) → All IsReadable (if t then e ∷ [] else [])
readable-if true e is = readable-one e (is refl)
readable-if false e is = All-nil IsReadable

kept-inserted : (k : Kept) (ms : List Kept) → IsMemberKept k → AreKeptMembers ms → AreKeptMembers (insert k ms)
kept-inserted k [] is all = All-cons IsMemberKept k [] is (All-nil IsMemberKept)
kept-inserted k (m ∷ ms) is all = by (nat_lt k.number m.number) (kept-inserted k ms is (All-tail IsMemberKept m ms all)) where
  by : (t : Bool) → AreKeptMembers (insert k ms) → AreKeptMembers (if t then k ∷ m ∷ ms else m ∷ insert k ms)
  by true later = All-cons IsMemberKept k (m ∷ ms) is all
  by false later = All-cons IsMemberKept m (insert k ms) (All-head IsMemberKept m ms all) later

all-inserted : (ks ms : List Kept) → AreKeptMembers ks → AreKeptMembers ms → AreKeptMembers (insert_all ks ms)
all-inserted [] ms ks_are all = all
all-inserted (k ∷ ks) ms ks_are all = kept-inserted k (insert_all ks ms) (All-head IsMemberKept k ks ks_are) (all-inserted ks ms (All-tail IsMemberKept k ks ks_are) all)

-- the members of a group of readable events
gathered-readable : (e : Event) (es : List Event) → All IsReadableEvent (e ∷ es) → AreKeptMembers (gathered e es)
gathered-readable e [] all = All-head IsReadableEvent e [] all
gathered-readable e (f ∷ fs) all = all-inserted e.note (gathered f fs) (All-head IsReadableEvent e (f ∷ fs) all) (gathered-readable f fs (All-tail IsReadableEvent e (f ∷ fs) all))

group-if : (t : Bool) (step : ℕ) (e : Event) (es : List Event) → All IsReadableEvent (e ∷ es) → All IsReadable (if t then group_entry step e es ∷ [] else [])
group-if t step e es all = readable-if t (group_entry step e es) (λ is. gathered-readable e es all)

module _ (c : Model) (b : ℕ) where
  pub closed-readable : (p : Point) (before : Past) (g : List Event) → All IsReadableEvent g → All IsReadable (closed_entry c b p before g)
  closed-readable p before [] all = All-nil IsReadable
  closed-readable p before (e ∷ es) all = group-if (closes c b p before e es) p.step e es all

  pub then-readable : (n m : ℕ) (d : Deed) (before : Past) (g : List Event) → All IsReadableEvent g → All IsReadable (closed_then c b n m d before g)
  then-readable n m d before [] all = All-nil IsReadable
  then-readable n m d before (e ∷ es) all = group-if _ n e es all

pub own-readable : (c : Model) (b : ℕ) (p : Point) (before : Past) (ks : List Kept) → AreKeptMembers ks → All IsReadable (own_entry c b p before ks)
own-readable c b p before [] all = All-nil IsReadable
own-readable c b p before (k ∷ ks) all = readable-if _ _ (λ is. all)

-- what is left of a group
pub group-left : (x : Bool) (moment : ℕ) (g : List Event) → All IsReadableEvent g → All IsReadableEvent (if_open x moment g)
group-left x moment [] all = all
group-left x moment (e ∷ es) all = by (x || is_over e es moment) where
  by : (t : Bool) → All IsReadableEvent (if t then [] else e ∷ es)
  by true = All-nil IsReadableEvent
  by false = all
