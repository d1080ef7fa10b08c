-- The members of each entry stand in the order of their numbers, each once: an entry has no more of them than its numbers go.
use Rattle.std.proofs.Common.{◌≡◌, ◌≢◌, ◌<◌, ◌≤◌, ◌+◌, ◌∙◌, ◌⊎◌, ℕ, suc, Bool, true, false, List, [], ◌∷◌, ◌++◌, length, map, refl, sym, subst, ap, arith, inl, inr}
use Rattle.std.specs.Prelude.{if◌then◌else◌, nat_lt, nat_le, not, ◌==◌, ◌&&◌, ◌||◌}
use Rattle.std.specs.List.{All, list_any}
use Rattle.std.proofs.lemmas.Bool.Decides.{leb_tells, eqb_tells}
use Rattle.std.proofs.lemmas.List.Elements.{All-append, All-nil, All-cons, All-head, All-tail}
use Rattle.sv_base.specs.Data.{data_of}
use Rattle.bay_model.specs.declared.report.Reasons.{Reasons}
use Rattle.bay_model.specs.Model.{Model}
use Rattle.bay_model.specs.Lookups.{node_of}
use Rattle.bay_model.specs.Points.{Deed, Point, Past, now, valued, put, activated, confirmed}
use Rattle.bay_model.specs.Parameters.{parameters_at, is_interrogation}
use Rattle.bay_model.specs.Sets.{members}
use Rattle.bay_model.specs.Values.{whole}
use Rattle.bay_model.specs.Breaks.{integrity, is_empty}
use Rattle.bay_model.specs.Notes.{Kept, note, note_at, note_by, noted, all_members, is_any, no_reason, union_of}
use Rattle.bay_model.specs.Groups.{Event, event_of, events, groups, place, newest, if_open, is_over, is_broken, continues, shares, open_group}
use Rattle.bay_model.specs.Entries.{Entry, selected, appended, last_number, gathered, closes, group_entry, closed_entry, integrity_entry, general_entry, own_entry}
use Rattle.window_core.specs.Pieces.{Piece, insert, insert_all, is_there, share}
use Rattle.window_core.specs.Standing.{piece_of}
use Rattle.window_core.proofs.PieceLaws.{pieces-inserted, shared}
use Rattle.window_core.proofs.RowLaws.{new-among}
use Rattle.report_block.specs.Standing.{IsMemberKept, AreKeptMembers}
use Rattle.list_laws.proofs.Truths.{or-right, or-left}

-- ---- numbers that ascend

-- each above the one before, the first above a number
abbrev pub AreUp : ℕ → List Piece → Type 0
AreUp above [] = Unit {0}
AreUp above (p ∷ ps) = (above < p.number) × AreUp p.number ps

abbrev pub KeptUp : List Kept → Type 0
KeptUp ks = AreUp 0 (map piece_of ks)

abbrev pub IsUp : Entry → Type 0
IsUp e = KeptUp e.members

lower : (a b : ℕ) (ps : List Piece) → a ≤ b → AreUp b ps → AreUp a ps
lower a b [] h up = tt
lower a b (p ∷ ps) h up = (omega (arith, h, up.0), up.1)

not-there : (n a : ℕ) (ps : List Piece) → n ≤ a → AreUp a ps → is_there n ps ≡ false
not-there n a [] h up = refl
not-there n a (p ∷ ps) h up = elim (eqb_tells n p.number) [
  | inl t ↦ absurd (omega (arith, t.1, h, up.0))
  | inr t ↦ ap (λ x. x || is_there n ps) t.0 ∙ not-there n p.number ps (omega (arith, h, up.0)) up.1
]

insert-up : (a : ℕ) (p : Piece) (qs : List Piece) → a < p.number → is_there p.number qs ≡ false → AreUp a qs → AreUp a (insert p qs)
insert-up a p [] h new up = (h, tt)
insert-up a p (q ∷ qs) h new up = by (leb_tells (suc p.number) q.number) (eqb_tells p.number q.number) (insert-up q.number p qs)
  where
    by : ((nat_le (suc p.number) q.number ≡ true) × (suc p.number ≤ q.number)) ⊎ ((nat_le (suc p.number) q.number ≡ false) × (q.number < suc p.number))
        → (((p.number == q.number) ≡ true) × (p.number ≡ q.number)) ⊎ (((p.number == q.number) ≡ false) × (p.number ≢ q.number))
        → (q.number < p.number → is_there p.number qs ≡ false → AreUp q.number qs → AreUp q.number (insert p qs)) → AreUp a (insert p (q ∷ qs))
    by (inl t) other later = subst (λ u. AreUp a (if u then p ∷ q ∷ qs else q ∷ insert p qs)) (sym t.0) (h, (t.1, up.1))
    by (inr t) (inl same) later = cc (same.0, or-left (p.number == q.number) (is_there p.number qs) new)
    by (inr t) (inr other) later = subst (λ u. AreUp a (if u then p ∷ q ∷ qs else q ∷ insert p qs)) (sym t.0)
        (up.0, later (omega (arith, t.1, other.1)) (or-right (p.number == q.number) (is_there p.number qs) new) up.1)

insert_all-up : (a : ℕ) (ps qs : List Piece) → AreUp a ps → AreUp a qs → share ps qs ≡ false → AreUp a (insert_all ps qs)
insert_all-up a [] qs up other apart = other
insert_all-up a (p ∷ ps) qs up other apart =
    insert-up a p (insert_all ps qs) up.0 (new-among p.number ps qs (not-there p.number p.number ps (omega arith) up.1) (or-left (is_there p.number qs) (share ps qs) apart))
    (insert_all-up a ps qs (lower a p.number ps (omega (arith, up.0)) up.1) other (or-right (is_there p.number qs) (share ps qs) apart))

-- ---- notes

noted-up : (c : Model) (f : ℕ → Reasons) (past : Past) (i : ℕ) (ns : List ℕ) → AreUp i (map piece_of (noted c f past (suc i) ns))
noted-up c f past i [] = tt
noted-up c f past i (n ∷ ns) = by (is_any (f n)) (noted c f past (suc (suc i)) ns) (noted-up c f past (suc i) ns)
  where
    octets : List ℕ
    octets = data_of (whole c past (node_of c n).tree)

    by : (t : Bool) (ks : List Kept) → AreUp (suc i) (map piece_of ks) → AreUp i (map piece_of ((if t then record { number = suc i; reasons = f n; octets = octets } ∷ [] else []) ++ ks))
    by true ks up = (omega arith, up)
    by false ks up = lower i (suc i) (map piece_of ks) (omega arith) up

module _ (c : Model) (b : ℕ) where
  all-up : (r : Reasons) (before past : Past) → KeptUp (all_members c b r before past)
  all-up r before past = noted-up c (λ n. r) past 0 (members c b before)

  module _ (p : Point) (before : Past) where
    by-up : KeptUp (note_by c b p before)
    by-up = noted-up c (λ n. union_of c (parameters_at c b before).trg_ops p.deed before (node_of c n).attrs) (p ∷ before) 0 (members c b before)

    at-up : (d : Deed) → KeptUp (note_at c b p before d)
    at-up (valued settings) = by-up
    at-up (put a x v) = by-up
    at-up (activated a d n) = by-up
    at-up (confirmed a d) = by-up
    at-up _ = tt

    note-up : KeptUp (note c b p before)
    note-up = at-up p.deed

-- ---- groups

abbrev IsUpEvent : Event → Type 0
IsUpEvent e = KeptUp e.note

-- the notes of a group ascend, and no two have a member in common
abbrev AreApart : List Event → Type 0
AreApart [] = Unit {0}
AreApart (e ∷ es) = KeptUp e.note × (list_any (λ (f : Event). shares e.note f.note) es ≡ false) × AreApart es

gathered-up : (e : Event) (es : List Event) → AreApart (e ∷ es) → KeptUp (gathered e es)
gathered-up e [] h = h.0
gathered-up e (f ∷ fs) h = subst (AreUp 0) (sym (pieces-inserted e.note (gathered f fs)))
    (insert_all-up 0 (map piece_of e.note) (map piece_of (gathered f fs)) h.0 (gathered-up f fs h.2) (shared e.note f fs ∙ h.1))

third : (x y z : Bool) → (x && y && not z) ≡ true → z ≡ false
third true true true h = cc
third true true false h = refl
third true false z h = cc
third false y z h = cc

place-apart : (q : Event) (gs : List (List Event)) → KeptUp q.note → All AreApart gs → All AreApart (place q gs)
place-apart q [] up all = All-cons AreApart (q ∷ []) [] (up, refl, tt) (All-nil AreApart)
place-apart q ([] ∷ gs) up all = All-cons AreApart (q ∷ []) gs (up, refl, tt) (All-tail AreApart [] gs all)
place-apart q ((e ∷ es) ∷ gs) up all = by (continues q e es) refl
  where
    by : (t : Bool) → continues q e es ≡ t → All AreApart (if t then (q ∷ e ∷ es) ∷ gs else (q ∷ []) ∷ (e ∷ es) ∷ gs)
    by true is = All-cons AreApart (q ∷ e ∷ es) gs (up, third (not q.is_cut) (not (is_over e es q.moment)) (list_any (λ (f : Event). shares q.note f.note) (e ∷ es)) is, All-head AreApart (e ∷ es) gs all)
        (All-tail AreApart (e ∷ es) gs all)
    by false is = All-cons AreApart (q ∷ []) ((e ∷ es) ∷ gs) (up, refl, tt) all

groups-apart : (qs : List Event) → All IsUpEvent qs → All AreApart (groups qs)
groups-apart [] all = All-nil AreApart
groups-apart (q ∷ qs) all = place-apart q (groups qs) (All-head IsUpEvent q qs all) (groups-apart qs (All-tail IsUpEvent q qs all))

newest-apart : (gs : List (List Event)) → All AreApart gs → AreApart (newest gs)
newest-apart [] all = tt
newest-apart (g ∷ gs) all = All-head AreApart g gs all

left-apart : (broken : Bool) (moment : ℕ) (g : List Event) → AreApart g → AreApart (if_open broken moment g)
left-apart broken moment [] h = tt
left-apart broken moment (e ∷ es) h = by (broken || is_over e es moment) where
  by : (t : Bool) → AreApart (if t then [] else e ∷ es)
  by true = tt
  by false = h

module _ (c : Model) (b : ℕ) where
  events-up : (past : Past) → All IsUpEvent (events c b past)
  events-up [] = All-nil IsUpEvent
  events-up (p ∷ before) = by (is_empty (note c b p before)) (events-up before) where
    by : (t : Bool) → All IsUpEvent (events c b before) → All IsUpEvent (if t then events c b before else event_of c b p before ∷ events c b before)
    by true all = all
    by false all = All-cons IsUpEvent (event_of c b p before) (events c b before) (note-up c b p before) all

  open-apart : (past : Past) → AreApart (open_group c b past)
  open-apart past = left-apart (is_broken c b past) (now past) (newest (groups (events c b past))) (newest-apart (groups (events c b past)) (groups-apart (events c b past) (events-up past)))

-- ---- entries

appended-up : (so_far es : List Entry) → All IsUp so_far → All IsUp es → All IsUp (appended so_far es)
appended-up so_far [] h all = h
appended-up so_far (e ∷ es) h all = appended-up (if nat_lt (length so_far) last_number then so_far ++ e ∷ [] else so_far) es (either (nat_lt (length so_far) last_number)) (All-tail IsUp e es all) where
  either : (t : Bool) → All IsUp (if t then so_far ++ e ∷ [] else so_far)
  either true = All-append IsUp so_far (e ∷ []) h (All-cons IsUp e [] (All-head IsUp e es all) (All-nil IsUp))
  either false = h

one-up : (t : Bool) (e : Entry) → IsUp e → All IsUp (if t then e ∷ [] else [])
one-up true e is = All-cons IsUp e [] is (All-nil IsUp)
one-up false e is = All-nil IsUp

module _ (c : Model) (b : ℕ) (p : Point) (before : Past) where
  closed-up : (g : List Event) → AreApart g → All IsUp (closed_entry c b p before g)
  closed-up [] h = All-nil IsUp
  closed-up (e ∷ es) h = one-up (closes c b p before e es) (group_entry p.step e es) (gathered-up e es h)

  integrity-up : All IsUp (integrity_entry c b p before)
  integrity-up = one-up (integrity c b p before) (record { moment = now (p ∷ before); step = p.step; members = all_members c b (record no_reason { intg = true }) before before }) (all-up c b (record no_reason { intg = true }) before before)

  general-up : All IsUp (general_entry c b p before)
  general-up = one-up (is_interrogation b p.deed) (record { moment = now (p ∷ before); step = p.step; members = all_members c b (record no_reason { gi = true }) before (p ∷ before) }) (all-up c b (record no_reason { gi = true }) before (p ∷ before))

  own-up : (ks : List Kept) → KeptUp ks → All IsUp (own_entry c b p before ks)
  own-up [] up = All-nil IsUp
  own-up (k ∷ ks) up = one-up ((parameters_at c b before).buf_tm == 0) (record { moment = now (p ∷ before); step = p.step; members = k ∷ ks }) up

-- all entries of a block, after every past
pub selected-up : (c : Model) (b : ℕ) (past : Past) → All IsUp (selected c b past)
selected-up c b [] = All-nil IsUp
selected-up c b (p ∷ before) =
    let closed = closed_entry c b p before (open_group c b before) in
    let one = appended (selected c b before) closed in
    let two = appended one (integrity_entry c b p before) in
    let three = appended two (general_entry c b p before) in
    appended-up three (own_entry c b p before (note c b p before)) (appended-up two (general_entry c b p before) (appended-up one (integrity_entry c b p before)
    (appended-up (selected c b before) closed (selected-up c b before) (closed-up c b p before (open_group c b before) (open-apart c b before))) (integrity-up c b p before)) (general-up c b p before)) (own-up c b p before (note c b p before) (note-up c b p before))

-- ---- how many there are

few-above : (above : ℕ) (ks : List Kept) → above ≤ 256 → AreUp above (map piece_of ks) → AreKeptMembers ks → length ks + above ≤ 256
few-above above [] h up all = omega (arith, h)
few-above above (k ∷ ks) h up all =
    let first : IsMemberKept k = All-head IsMemberKept k ks all in
    omega (arith, up.0, few-above k.number ks first.number.1 up.1 (All-tail IsMemberKept k ks all))

-- members whose numbers ascend up to 256
pub members-few : (ks : List Kept) → KeptUp ks → AreKeptMembers ks → length ks ≤ 256
members-few ks up all = omega (arith, few-above 0 ks (omega arith) up all)
