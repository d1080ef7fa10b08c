-- That the reservation is what its rule says.
use Rattle.std.proofs.Common.{◌≡◌, ◌≤◌, ℕ, ◌+◌, ◌*◌, max, Bool, true, false, not, List, [], ◌∷◌, ◌++◌, map, refl, sym, ap, ap₂, ◌∙◌, subst, arith, true≢false, ◌⊎◌, inl, inr}
use Rattle.std.specs.Prelude.{pos, nat_abs, ◌&&◌, ◌||◌, ◌==◌, nat_le, nat_lt, int_le, Option, None, Some, is_none, if◌then◌else◌}
use Rattle.std.specs.Option.{option_map}
use Rattle.std.specs.List.{filter, list_any}
use Rattle.std.proofs.lemmas.Grind.{common_steps}
use Rattle.std.proofs.lemmas.Bool.Decides.{nat_tests}
use Rattle.sv_base.specs.declared.value.Value.{Value}
use Rattle.sv_base.specs.declared.value.Value.TheVariants as kinds
use Rattle.sv_base.specs.declared.components.Comp.{Comp}
use Rattle.sv_base.specs.declared.components.Comp.TheVariants.{ResvTms}
use Rattle.bay_model.specs.Breaks.{is_empty}
use Rattle.bay_model.specs.Points.{Deed, wrote, lost, Point, Past, now}
use Rattle.bay_model.specs.Associations.{address}
use Rattle.bay_model.specs.Reservations.{Reservation, with_number, without_number, is_run_out, unless_run_out, lasting, reserved_by, with_writer, without_writer, reservation_by, reservation_after, reservation}
use Rattle.bay_model.specs.ReservationsAre.{Written, lost_at, writes_after, writes_since, are_lost, moment_in, latest, is_over, has_run_out, is_reserving, NoneReserves}
use Rattle.list_laws.proofs.Places.{same-number, same-of, swap-number}
use Rattle.list_laws.proofs.Truths.{and-left, and-right, or-left, or-right, or-none}
use Rattle.list_laws.proofs.Options.{some_is}

-- ---- numbers among numbers

abbrev has : ℕ → List ℕ → Bool
has e es = list_any (λ i. i == e) es

-- a write of e that has no loss after it
abbrev waits : ℕ → List Written → Bool
waits e [] = false
waits e (w ∷ ws) = ((w.by == e) && is_none w.first) || waits e ws

or-turn : (x y z : Bool) → (x || (y || z)) ≡ (y || (x || z))
or-turn true true z = refl
or-turn true false z = refl
or-turn false y z = refl

or-same : (x y : Bool) → x ≡ y → (x || y) ≡ y
or-same true y h = h
or-same false y h = refl

has-with : (e a : ℕ) (es : List ℕ) → has e (with_number a es) ≡ ((a == e) || has e es)
has-with e a [] = refl
has-with e a (i ∷ es) = either (nat_lt a i) (a == i) refl (has-with e a es) where
  either : (t u : Bool) → (a == i) ≡ u → has e (with_number a es) ≡ ((a == e) || has e es)
      → has e (if t then a ∷ i ∷ es else (if u then i ∷ es else i ∷ with_number a es)) ≡ ((a == e) || ((i == e) || has e es))
  either true u is rest = refl
  either false true is rest = let same : (a == e) ≡ (i == e) = ap (λ j. j == e) (same-of a i is) in
      rw same (twice (i == e) (has e es))
    where
      twice : (x y : Bool) → (x || y) ≡ (x || (x || y))
      twice true y = refl
      twice false y = refl
  either false false is rest = ap (λ x. (i == e) || x) rest ∙ or-turn (i == e) (a == e) (has e es)

-- ---- a loss

apart : (x y z : Bool) → (x ≡ true → y ≡ false) → (y || (not x && z)) ≡ (not x && (y || z))
apart true y z other = or-none y ∙ other refl
apart false y z other = refl

gone : (x y : Bool) → (not x && y) ≡ (not x && (x || y))
gone true y = refl
gone false y = refl

none-left : (t : Bool) → false ≡ (t && false)
none-left true = refl
none-left false = refl

has-without : (e a : ℕ) (es : List ℕ) → has e (without_number a es) ≡ (not (a == e) && has e es)
has-without e a [] = none-left (not (a == e))
has-without e a (i ∷ es) = either (i == a) refl (has-without e a es) where
  either : (t : Bool) → (i == a) ≡ t → has e (without_number a es) ≡ (not (a == e) && has e es)
      → has e (if not t then i ∷ without_number a es else without_number a es) ≡ (not (a == e) && ((i == e) || has e es))
  either true is rest = rest ∙ rw (ap (λ j. j == e) (same-of i a is)) (gone (a == e) (has e es))
  either false is rest = ap (λ x. (i == e) || x) rest ∙ apart (a == e) (i == e) (has e es) (λ s. subst (λ j. (i == j) ≡ false) (same-of a e s) is)

-- the write w of a is the first of its kind to be lost, or it stays as it was
waits-lost : (e a moment : ℕ) (ws : List Written) → waits e (map (lost_at moment a) ws) ≡ (not (a == e) && waits e ws)
waits-lost e a moment [] = none-left (not (a == e))
waits-lost e a moment (w ∷ ws) = either ((w.by == a) && is_none w.first) refl (waits-lost e a moment ws) where
  own : (x y : Bool) → (not x && y) ≡ (not x && ((x && true) || y))
  own true y = refl
  own false y = refl

  left : (x y : Bool) → ((x && false) || y) ≡ y
  left true y = refl
  left false y = refl

  either : (t : Bool) → ((w.by == a) && is_none w.first) ≡ t → waits e (map (lost_at moment a) ws) ≡ (not (a == e) && waits e ws)
      → waits e ((if t then record w { first = Some moment } else w) ∷ map (lost_at moment a) ws) ≡ (not (a == e) && (((w.by == e) && is_none w.first) || waits e ws))
  either true is rest = left (w.by == e) (waits e (map (lost_at moment a) ws)) ∙ (rest
      ∙ rw (ap (λ j. j == e) (same-of w.by a (and-left (w.by == a) (is_none w.first) is)), and-right (w.by == a) (is_none w.first) is) (own (a == e) (waits e ws)))
  either false is rest = ap (λ x. ((w.by == e) && is_none w.first) || x) rest
      ∙ apart (a == e) ((w.by == e) && is_none w.first) (waits e ws) (λ s. subst (λ j. ((w.by == j) && is_none w.first) ≡ false) (same-of a e s) is)

-- ---- whether all are lost

none-waits : (ws : List Written) → ((e : ℕ) → waits e ws ≡ false) → are_lost ws ≡ true
none-waits [] h = refl
none-waits (w ∷ ws) h =
    let first : ((w.by == w.by) && is_none w.first) ≡ false = or-left ((w.by == w.by) && is_none w.first) (waits w.by ws) (h w.by) in
    let there : is_none w.first ≡ false = sym (ap (λ t. t && is_none w.first) (same-number w.by)) ∙ first in
    rw there (none-waits ws (λ e. or-right ((w.by == e) && is_none w.first) (waits e ws) (h e)))

some-waits : (e : ℕ) (ws : List Written) → waits e ws ≡ true → are_lost ws ≡ false
some-waits e [] h = absurd (true≢false (sym h))
some-waits e (w ∷ ws) h = either ((w.by == e) && is_none w.first) refl h (some-waits e ws) where
  no-more : (x : Bool) → (x && false) ≡ false
  no-more true = refl
  no-more false = refl

  either : (t : Bool) → ((w.by == e) && is_none w.first) ≡ t → (t || waits e ws) ≡ true → (waits e ws ≡ true → are_lost ws ≡ false) → (not (is_none w.first) && are_lost ws) ≡ false
  either true is h rest = rw (and-right (w.by == e) (is_none w.first) is) refl
  either false is h rest = ap (λ x. not (is_none w.first) && x) (rest h) ∙ no-more (not (is_none w.first))

lost-same : (es : List ℕ) (ws : List Written) → ((e : ℕ) → has e es ≡ waits e ws) → is_empty es ≡ are_lost ws
lost-same [] ws h = sym (none-waits ws (λ e. sym (h e)))
lost-same (i ∷ es) ws h = sym (some-waits i ws (sym (h i) ∙ ap (λ t. t || has i es) (same-number i)))

-- ---- since when

latest-lost : (moment a : ℕ) (ws : List Written) → latest ws ≤ moment → latest (map (lost_at moment a) ws) ≡ (if waits a ws then moment else latest ws)
latest-lost moment a [] h = refl
latest-lost moment a (w ∷ ws) h = either ((w.by == a) && is_none w.first) (waits a ws) (latest-lost moment a ws (omega (arith, h))) where
  either : (t u : Bool) → latest (map (lost_at moment a) ws) ≡ (if u then moment else latest ws)
      → max (moment_in (if t then record w { first = Some moment } else w).first) (latest (map (lost_at moment a) ws)) ≡ (if t || u then moment else max (moment_in w.first) (latest ws))
  either true true rest = omega (arith, rest)
  either true false rest = omega (arith, rest, h)
  either false true rest = omega (arith, rest, h)
  either false false rest = ap (max (moment_in w.first)) rest

-- ---- a reservation and its writes

record Keeps (o : List ℕ) (n : ℕ) (ws : List Written) (moment : ℕ) (r : Reservation) : Type 0 where
  owner : r.owner ≡ o
  seconds : r.seconds ≡ n
  same : (e : ℕ) → has e r.writers ≡ waits e ws
  since : is_empty r.writers ≡ true → r.since ≡ latest ws
  bound : latest ws ≤ moment

later : (o : List ℕ) (n : ℕ) (ws : List Written) (was moment : ℕ) (r : Reservation) → was ≤ moment → Keeps o n ws was r → Keeps o n ws moment r
later o n ws was moment r h k = record { owner = k.owner; seconds = k.seconds; same = k.same; since = k.since; bound = omega (arith, h, k.bound) }

over-same : (o : List ℕ) (n : ℕ) (ws : List Written) (was moment : ℕ) (r : Reservation) → Keeps o n ws was r → is_run_out moment r ≡ is_over n moment ws
over-same o n ws was moment r k = either (is_empty r.writers) refl where
  all : is_empty r.writers ≡ are_lost ws
  all = lost-same r.writers ws k.same

  either : (t : Bool) → is_empty r.writers ≡ t → (is_empty r.writers && nat_le (r.since + 1000 * r.seconds) moment) ≡ (are_lost ws && nat_le (latest ws + 1000 * n) moment)
  either true is = ap₂ (λ x y. x && y) all (ap₂ (λ s q. nat_le (s + 1000 * q) moment) (k.since is) k.seconds)
  either false is = rw (is, sym all ∙ is) refl

with-some : (a : ℕ) (es : List ℕ) → is_empty (with_number a es) ≡ false
with-some a [] = refl
with-some a (e ∷ es) = either (nat_lt a e) (a == e) where
  either : (t u : Bool) → is_empty (if t then a ∷ e ∷ es else (if u then e ∷ es else e ∷ with_number a es)) ≡ false
  either true u = refl
  either false true = refl
  either false false = refl

keeps-wrote : (a : ℕ) (o : List ℕ) (n : ℕ) (ws : List Written) (moment : ℕ) (r : Reservation) → Keeps o n ws moment r → Keeps o n (record { by = a; first = None } ∷ ws) moment (with_writer a r)
keeps-wrote a o n ws moment r k = record {
  owner = k.owner;
  seconds = k.seconds;
  same = λ e. has-with e a r.writers ∙ (ap (λ x. (a == e) || x) (k.same e) ∙ ap (λ x. x || waits e ws) (whole (a == e)));
  since = λ none. absurd (true≢false (sym none ∙ with-some a r.writers));
  bound = omega (arith, k.bound);
} where
  whole : (t : Bool) → t ≡ (t && true)
  whole true = refl
  whole false = refl

-- where numbers are there, and none without a, a is among them
only : (a : ℕ) (es : List ℕ) → is_empty es ≡ false → is_empty (without_number a es) ≡ true → has a es ≡ true
only a [] some none = absurd (true≢false some)
only a (i ∷ es) some none = either (i == a) refl none where
  either : (t : Bool) → (i == a) ≡ t → is_empty (if not t then i ∷ without_number a es else without_number a es) ≡ true → ((i == a) || has a es) ≡ true
  either true is none = rw is refl
  either false is none = absurd (true≢false (sym none))

keeps-lost : (a : ℕ) (o : List ℕ) (n : ℕ) (ws : List Written) (moment : ℕ) (r : Reservation) → Keeps o n ws moment r → Keeps o n (map (lost_at moment a) ws) moment (without_writer moment a r)
keeps-lost a o n ws moment r k = record {
  owner = k.owner;
  seconds = k.seconds;
  same = λ e. has-without e a r.writers ∙ (ap (λ x. not (a == e) && x) (k.same e) ∙ sym (waits-lost e a moment ws));
  since = λ none. either (is_empty r.writers) refl none;
  bound = within (waits a ws) (latest-lost moment a ws k.bound);
} where
  within : (t : Bool) → latest (map (lost_at moment a) ws) ≡ (if t then moment else latest ws) → latest (map (lost_at moment a) ws) ≤ moment
  within true e = omega (arith, e)
  within false e = omega (arith, e, k.bound)

  empty : (es : List ℕ) → is_empty es ≡ true → has a es ≡ false
  empty [] h = refl
  empty (i ∷ es) h = absurd (true≢false (sym h))

  either : (t : Bool) → is_empty r.writers ≡ t → is_empty (without_number a r.writers) ≡ true → (if t then r.since else moment) ≡ latest (map (lost_at moment a) ws)
  either true is none = k.since is ∙ sym (latest-lost moment a ws k.bound ∙ ap (λ t. if t then moment else latest ws) (sym (k.same a) ∙ empty r.writers is))
  either false is none = sym (latest-lost moment a ws k.bound ∙ ap (λ t. if t then moment else latest ws) (sym (k.same a) ∙ only a r.writers is none))

-- ---- point by point

record Went (o : List ℕ) (n moment : ℕ) (x : Option Reservation) (ws : List Written) : Type 0 where
  next : Reservation
  is : x ≡ Some next
  keeps : Keeps o n ws moment next

wrote-went : (a b k n moment : ℕ) (o : List ℕ) (ws : List Written) (r : Reservation) → Keeps o n ws moment r → (t : Bool)
    → Went o n moment (if t then Some (with_writer a r) else Some r) (if t then record { by = a; first = None } ∷ ws else ws)
wrote-went a b k n moment o ws r keep true = record { next = with_writer a r; is = refl; keeps = keeps-wrote a o n ws moment r keep }
wrote-went a b k n moment o ws r keep false = record { next = r; is = refl; keeps = keep }

by-deed : (b : ℕ) (o : List ℕ) (n moment : ℕ) (before : Past) (d : Deed) (ws : List Written) (r : Reservation) → is_reserving b d ≡ false → Keeps o n ws moment r
    → Went o n moment (reservation_after b moment before d (Some r)) (writes_after b moment d ws)
by-deed b o n moment before (wrote a k ResvTms v) ws r none keep = rw none (record { next = r; is = refl; keeps = keep })
by-deed b o n moment before (wrote a k comp v) ws r none keep = wrote-went a b k n moment o ws r keep (k == b)
by-deed b o n moment before (lost a) ws r none keep = record { next = without_writer moment a r; is = refl; keeps = keeps-lost a o n ws moment r keep }
by-deed b o n moment before _ ws r none keep = record { next = r; is = refl; keeps = keep }

abbrev unreserved : Option Reservation
unreserved = None

either-none : (t : Bool) → (if t then unreserved else unreserved) ≡ unreserved
either-none true = refl
either-none false = refl

after-none : (b moment : ℕ) (before : Past) (d : Deed) → is_reserving b d ≡ false → reservation_after b moment before d None ≡ None
after-none b moment before (wrote a k ResvTms v) none = rw none refl
after-none b moment before (wrote a k comp v) none = either-none (k == b)
after-none b moment before (lost a) none = refl
after-none b moment before _ none = refl

abbrev Stand : List ℕ → ℕ → ℕ → Option Reservation → Bool → List Written → Type 0
Stand o n moment x out ws = ((x ≡ None) × (out ≡ true)) ⊎ ((out ≡ false) × Went o n moment x ws)

module _ (b a n : ℕ) (past : Past) (o : List ℕ) where
  step : (p : Point) (ps : List Point) → is_reserving b p.deed ≡ false
      → Stand o n (now (ps ++ past)) (reservation b (ps ++ past)) (has_run_out b a n past ps) (writes_since b a past ps)
      → Stand o n (now (p ∷ (ps ++ past))) (reservation b (p ∷ (ps ++ past))) (has_run_out b a n past (p ∷ ps)) (writes_since b a past (p ∷ ps))
  step p ps none (inl h) = inl (
    ap (λ x. reservation_after b (now (p ∷ (ps ++ past))) (ps ++ past) p.deed (lasting (now (p ∷ (ps ++ past))) x)) h.0 ∙ after-none b (now (p ∷ (ps ++ past))) (ps ++ past) p.deed none,
    rw h.1 refl,
  )
  step p ps none (inr h) = either (is_run_out (now (p ∷ (ps ++ past))) h.1.next) refl where
    moment : ℕ
    moment = now (p ∷ (ps ++ past))

    lasts : lasting moment (reservation b (ps ++ past)) ≡ unless_run_out moment h.1.next
    lasts = ap (lasting moment) h.1.is

    over : is_run_out moment h.1.next ≡ is_over n moment (writes_since b a past ps)
    over = over-same o n (writes_since b a past ps) (now (ps ++ past)) moment h.1.next h.1.keeps

    keep : Keeps o n (writes_since b a past ps) moment h.1.next
    keep = later o n (writes_since b a past ps) (now (ps ++ past)) moment h.1.next (omega arith) h.1.keeps

    either : (t : Bool) → is_run_out moment h.1.next ≡ t
        → Stand o n moment (reservation_after b moment (ps ++ past) p.deed (lasting moment (reservation b (ps ++ past)))) (has_run_out b a n past ps || is_over n moment (writes_since b a past ps))
        (writes_after b moment p.deed (writes_since b a past ps))
    either true is = inl (
      ap (reservation_after b moment (ps ++ past) p.deed) (lasts ∙ ap (λ t. if t then None else Some h.1.next) is) ∙ after-none b moment (ps ++ past) p.deed none,
      rw (h.0, sym over ∙ is) refl,
    )
    either false is =
        let same : lasting moment (reservation b (ps ++ past)) ≡ Some h.1.next = lasts ∙ ap (λ t. if t then None else Some h.1.next) is in
        let went = by-deed b o n moment (ps ++ past) p.deed (writes_since b a past ps) h.1.next none keep in
        inr (
          rw (h.0, sym over ∙ is) refl,
          record { next = went.next; is = ap (reservation_after b moment (ps ++ past) p.deed) same ∙ went.is; keeps = went.keeps },
        )

  all : (ps : List Point) → NoneReserves b ps → Stand o n (now past) (reservation b past) false (record { by = a; first = None } ∷ [])
      → Stand o n (now (ps ++ past)) (reservation b (ps ++ past)) (has_run_out b a n past ps) (writes_since b a past ps)
  all [] none first = first
  all (p ∷ ps) none first = step p ps none.1 (all ps none.0 first)

above-none : (n : ℕ) → 1 ≤ n → int_le (pos 1) (pos n) ≡ true
above-none n h = grind (arith, nat_tests, h)

first-stands : (b a m i n : ℕ) (before : Past) → 1 ≤ n
    → Stand (address a before) n (max m (now before)) (reservation b (record { moment = m; step = i; deed = wrote a b ResvTms (kinds.Int (pos n)) } ∷ before)) false (record { by = a; first = None } ∷ [])
first-stands b a m i n before h = inr (
  refl,
  rw (same-number b, above-none n h) (record {
    next = record { owner = address a before; seconds = n; writers = a ∷ []; since = max m (now before) };
    is = refl;
    keeps = record { owner = refl; seconds = refl; same = λ e. alone (a == e); since = λ none. absurd (true≢false (sym none)); bound = omega arith };
  }),
)
  where
    alone : (t : Bool) → (t || false) ≡ ((t && true) || false)
    alone true = refl
    alone false = refl

told : (o : List ℕ) (n moment : ℕ) (x : Option Reservation) (out : Bool) (ws : List Written) → Stand o n moment x out ws
    → (is_none x ≡ out) × ((r : Reservation) → x ≡ Some r → (r.owner ≡ o) × (r.seconds ≡ n))
told o n moment x out ws (inl h) = (ap is_none h.0 ∙ sym h.1, λ r e. absurd (cc (h.0, e)))
told o n moment x out ws (inr h) = (
  ap is_none h.1.is ∙ sym h.0,
  λ r e. (let same : h.1.next ≡ r = some_is h.1.next r (sym h.1.is ∙ e) in
      (sym (ap (λ (r : Reservation). r.owner) same) ∙ h.1.keeps.owner, sym (ap (λ (r : Reservation). r.seconds) same) ∙ h.1.keeps.seconds)),
)

pub reservations_are : (b a m i n : ℕ) (ps : List Point) (before : Past) → 1 ≤ n → NoneReserves b ps
    → (is_none (reservation b (ps ++ record { moment = m; step = i; deed = wrote a b ResvTms (kinds.Int (pos n)) } ∷ before))
    ≡ has_run_out b a n (record { moment = m; step = i; deed = wrote a b ResvTms (kinds.Int (pos n)) } ∷ before) ps)
    × ((r : Reservation) → reservation b (ps ++ record { moment = m; step = i; deed = wrote a b ResvTms (kinds.Int (pos n)) } ∷ before) ≡ Some r
    → (r.owner ≡ address a before) × (r.seconds ≡ n))
reservations_are b a m i n ps before h none =
    let past : Past = record { moment = m; step = i; deed = wrote a b ResvTms (kinds.Int (pos n)) } ∷ before in
    told (address a before) n (now (ps ++ past)) (reservation b (ps ++ past)) (has_run_out b a n past ps) (writes_since b a past ps)
    (all b a n past (address a before) ps none (first-stands b a m i n before h))
