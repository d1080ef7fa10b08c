-- The associations stand for the past, point by point.
use Rattle.std.proofs.Common.{◌≡◌, ◌≢◌, ℕ, ◌-◌, false, List, [], ◌∷◌, ◌++◌, drop, map, replicate, refl, sym, ap, ◌∙◌, subst, arith, inl, inr, append-nil}
use Rattle.std.specs.Prelude.{Option, Some}
use Rattle.std.proofs.lemmas.Bool.Decides.{eqb_tells}
use Rattle.std.proofs.lemmas.List.{get_or-set_same, get_or-set_other, get_or-replicate, length-set, length-replicate, drop-map, map-append}
use Rattle.bay_model.specs.Model.{Model}
use Rattle.bay_model.specs.Points.{Deed, Point, Past, opened, lost, valued, finished, blocked, wrote, put, copied, activated, edited, confirmed, called, selected_control, answered, took, terminated, reported, nothing}
use Rattle.bay_model.specs.Singles.{arrival}
use Rattle.bay_model.specs.Associations as model
use Rattle.bay_model.specs.Waiting as queue
use Rattle.bay_model.specs.Waiting.{put_by, extended}
use Rattle.assoc_table.specs.declared.waiting.Ends.{Ends}
use Rattle.assoc_table.specs.declared.waiting.Waiting.{Waiting}
use Rattle.assoc_table.specs.Seats.{Row, closed}
use Rattle.assoc_table.specs.Tables as tables
use Rattle.assoc_table.specs.Tables.{IsNumber, row_of, with_row}
use Rattle.assoc_table.specs.Standing.{Stands, StandsAt, IsPlain, waiting_of}
use Rattle.assoc_table.specs.Coming.{Coming, put_for, came, IsComing}
use Rattle.list_laws.proofs.Places.{same-number as same, other-number as apart}

-- one row is another, the others stand as before
moved : (c : Model) (a : ℕ) (row : Row) (p : Point) (before : Past) (rows : List Row) → IsNumber a → Stands rows c before → StandsAt row c a (p ∷ before)
    → ((e : ℕ) → e ≢ a → StandsAt (row_of rows e) c e before → StandsAt (row_of rows e) c e (p ∷ before)) → Stands (with_row rows a row) c (p ∷ before)
moved c a row p before rows number s here others = record {
  count = length-set rows (a - 1) row ∙ s.count;
  each = λ e n. elim (eqb_tells e a) [
    | inl t ↦ subst (λ k. StandsAt (row_of (with_row rows a row) k) c k (p ∷ before)) (sym t.1) (subst (λ r. StandsAt r c a (p ∷ before)) (sym (get_or-set_same rows (a - 1) row closed (omega (arith, s.count, number)))) here)
    | inr t ↦ let other : e - 1 ≢ a - 1 = λ is. t.1 (omega (arith, is, n, number)) in
        subst (λ r. StandsAt r c e (p ∷ before)) (sym (get_or-set_other rows (a - 1) (e - 1) row closed other)) (others e t.1 (s.each e n))
  ];
}

pub stands-empty : (c : Model) → Stands (replicate 16 closed) c []
stands-empty c = record {
  count = length-replicate 16 closed;
  each = λ a n. subst (λ r. StandsAt r c a []) (sym (get_or-replicate 16 (a - 1) closed closed (omega (arith, n)))) (record { ends = refl; owner = tt; waiting = refl });
}

pub stands-opened : (c : Model) (a : ℕ) (e : Ends) (p : Point) (before : Past) (rows : List Row) → IsNumber a → Stands rows c before → p.deed ≡ opened a e.opener.0 e.writer.0 e.size e.owner
    → Stands (tables.started rows a e) c (p ∷ before)
stands-opened c a e p before rows number s is = moved c a (record { ends = Some e; waiting = [] }) p before rows number s (record { ends = rw (is, same) refl; owner = rw (is, same) refl; waiting = rw (is, same) refl })
    (λ o h was. record { ends = rw (is, apart a o h) was.ends; owner = rw (is, apart a o h) was.owner; waiting = rw (is, apart a o h) was.waiting })

pub stands-lost : (c : Model) (a : ℕ) (p : Point) (before : Past) (rows : List Row) → IsNumber a → Stands rows c before → p.deed ≡ lost a → Stands (tables.ended rows a) c (p ∷ before)
stands-lost c a p before rows number s is = moved c a closed p before rows number s (record { ends = rw (is, same) refl; owner = tt; waiting = rw (is, same) refl })
    (λ o h was. record { ends = rw (is, apart a o h) was.ends; owner = rw is was.owner; waiting = rw (is, apart a o h) was.waiting })

less-one : (rows : List Row) (c : Model) (a : ℕ) (before : Past) → StandsAt (row_of rows a) c a before → map waiting_of (drop 1 (row_of rows a).waiting) ≡ drop 1 (queue.waiting c a before)
less-one rows c a before was = sym (drop-map waiting_of 1 (row_of rows a).waiting) ∙ ap (drop 1) was.waiting

pub stands-took : (c : Model) (a : ℕ) (p : Point) (before : Past) (rows : List Row) → IsNumber a → Stands rows c before → p.deed ≡ took a → Stands (tables.taken rows a) c (p ∷ before)
stands-took c a p before rows number s is = moved c a (record { ends = (row_of rows a).ends; waiting = drop 1 (row_of rows a).waiting }) p before rows number s
    (record { ends = rw is (s.each a number).ends; owner = rw is (s.each a number).owner; waiting = rw (is, same) (less-one rows c a before (s.each a number)) })
    (λ o h was. record { ends = rw is was.ends; owner = rw is was.owner; waiting = rw (is, apart a o h) was.waiting })

pub stands-terminated : (c : Model) (a k : ℕ) (p : Point) (before : Past) (rows : List Row) → IsNumber a → Stands rows c before → p.deed ≡ terminated a k → Stands (tables.taken rows a) c (p ∷ before)
stands-terminated c a k p before rows number s is = moved c a (record { ends = (row_of rows a).ends; waiting = drop 1 (row_of rows a).waiting }) p before rows number s
    (record { ends = rw is (s.each a number).ends; owner = rw is (s.each a number).owner; waiting = rw (is, same) (less-one rows c a before (s.each a number)) })
    (λ o h was. record { ends = rw is was.ends; owner = rw is was.owner; waiting = rw (is, apart a o h) was.waiting })

-- what a plain deed leaves
record IsQuiet (a : ℕ) (d : Deed) (was : Option model.Ends) (o : List ℕ) : Type 0 where
  start : queue.is_start a d ≡ false
  giving : queue.is_giving a d ≡ false
  ends : model.ends_after a d was ≡ was
  owner : model.address_after a d o ≡ o

quiet : (a : ℕ) (d : Deed) (was : Option model.Ends) (o : List ℕ) → IsPlain d → IsQuiet a d was o
quiet a (opened e i w size owner) was o h = absurd h
quiet a (lost e) was o h = absurd h
quiet a (took e) was o h = absurd h
quiet a (terminated e k) was o h = absurd h
quiet a (valued settings) was o h = record { start = refl; giving = refl; ends = refl; owner = refl }
quiet a (finished k good) was o h = record { start = refl; giving = refl; ends = refl; owner = refl }
quiet a (blocked k flag) was o h = record { start = refl; giving = refl; ends = refl; owner = refl }
quiet a (wrote e b comp v) was o h = record { start = refl; giving = refl; ends = refl; owner = refl }
quiet a (put e x v) was o h = record { start = refl; giving = refl; ends = refl; owner = refl }
quiet a (copied e x v) was o h = record { start = refl; giving = refl; ends = refl; owner = refl }
quiet a (activated e d n) was o h = record { start = refl; giving = refl; ends = refl; owner = refl }
quiet a (edited e d n) was o h = record { start = refl; giving = refl; ends = refl; owner = refl }
quiet a (confirmed e d) was o h = record { start = refl; giving = refl; ends = refl; owner = refl }
quiet a (called e k call v) was o h = record { start = refl; giving = refl; ends = refl; owner = refl }
quiet a (selected_control e k) was o h = record { start = refl; giving = refl; ends = refl; owner = refl }
quiet a (answered e output change) was o h = record { start = refl; giving = refl; ends = refl; owner = refl }
quiet a (reported e b n) was o h = record { start = refl; giving = refl; ends = refl; owner = refl }
quiet a nothing was o h = record { start = refl; giving = refl; ends = refl; owner = refl }

extended-is : (ws vs : List queue.Waiting) → extended ws vs ≡ ws ++ vs
extended-is ws [] = sym (append-nil ws)
extended-is ws (v ∷ vs) = refl

-- association e, for which a plain point puts these
plain-at : (c : Model) (e : ℕ) (p : Point) (before : Past) (row : Row) (items : List Waiting) → StandsAt row c e before → IsPlain p.deed → put_by c e p.step p.deed before ≡ map waiting_of items
    → StandsAt (record { ends = row.ends; waiting = row.waiting ++ items }) c e (p ∷ before)
plain-at c e p before row items was plain puts =
    let q = quiet e p.deed (model.ends e before) (model.address e before) plain in
    record {
      ends = rw q.ends was.ends;
      owner = rw q.owner was.owner;
      waiting = rw (q.start, q.giving, puts, extended-is (queue.waiting c e before) (map waiting_of items)) (map-append waiting_of row.waiting items ∙ ap (λ l. l ++ map waiting_of items) was.waiting);
    }

stays-at : (c : Model) (e : ℕ) (p : Point) (before : Past) (row : Row) → StandsAt row c e before → IsPlain p.deed → put_by c e p.step p.deed before ≡ [] → StandsAt row c e (p ∷ before)
stays-at c e p before row was plain puts =
    let q = quiet e p.deed (model.ends e before) (model.address e before) plain in record { ends = rw q.ends was.ends; owner = rw q.owner was.owner; waiting = rw (q.start, q.giving, puts) was.waiting }

pub stands-put : (c : Model) (a : ℕ) (items : List Waiting) (p : Point) (before : Past) (rows : List Row) → IsNumber a → Stands rows c before → IsPlain p.deed → put_by c a p.step p.deed before ≡ map waiting_of items
    → ((e : ℕ) → e ≢ a → put_by c e p.step p.deed before ≡ []) → Stands (tables.extended rows a items) c (p ∷ before)
stands-put c a items p before rows number s plain puts none = moved c a (record { ends = (row_of rows a).ends; waiting = (row_of rows a).waiting ++ items }) p before rows number s
    (plain-at c a p before (row_of rows a) items (s.each a number) plain puts)
    (λ e h was. stays-at c e p before (row_of rows e) was plain (none e h))

pub stands-other : (c : Model) (p : Point) (before : Past) (rows : List Row) → Stands rows c before → IsPlain p.deed → ((e : ℕ) → put_by c e p.step p.deed before ≡ []) → Stands rows c (p ∷ before)
stands-other c p before rows s plain none = record { count = s.count; each = λ e n. stays-at c e p before (row_of rows e) (s.each e n) plain (none e) }

-- ---- the arrival of a point, and its deed

pub stands-arrival : (c : Model) (m n : ℕ) (before : Past) (rows : List Row) → Stands rows c before → Stands rows c (arrival n m ∷ before)
stands-arrival c m n before rows s = stands-other c (arrival n m) before rows s tt (λ e. refl)

before-arrival : (c : Model) (m n : ℕ) (before : Past) (rows : List Row) → Stands rows c (arrival n m ∷ before) → Stands rows c before
before-arrival c m n before rows s = record { count = s.count; each = λ a number. (let x = s.each a number in record { ends = x.ends; owner = x.owner; waiting = x.waiting }) }

plain-deed : (c : Model) (p : Point) (before : Past) (rows : List Row) (k : Coming) → Stands rows c before → IsPlain p.deed → IsComing k c p.step p.deed before → Stands (put_for k.a k.items rows) c (p ∷ before)
plain-deed c p before rows k s plain is = by k.items refl where
  by : (items : List Waiting) → k.items ≡ items → Stands (put_for k.a items rows) c (p ∷ before)
  by [] none = stands-other c p before rows s plain (λ e. elim (eqb_tells e k.a) [ inl t ↦ ap (λ j. put_by c j p.step p.deed before) t.1 ∙ (is.puts ∙ ap (map waiting_of) none) | inr t ↦ is.for_no_other e t.1 ])
  by (w ∷ ws) some = stands-put c k.a (w ∷ ws) p before rows (is.for_one (λ none. some_none w ws (sym some ∙ none))) s plain (is.puts ∙ ap (map waiting_of) some) is.for_no_other
    where
      some_none : (w : Waiting) (ws : List Waiting) → w ∷ ws ≡ [] → ⊥
      some_none w ws h = cc

pub stands-deed : (c : Model) (m n : ℕ) (d : Deed) (before : Past) (rows : List Row) (k : Coming) → Stands rows c (arrival n m ∷ before) → IsComing k c n d before
    → Stands (came d k rows) c (record { moment = m; step = n; deed = d } ∷ before)
stands-deed c m n (opened a o w size owner) before rows k s is =
    stands-opened c a (record { opener = record { 0 = o }; writer = record { 0 = w }; size = size; owner = owner }) (record { moment = m; step = n; deed = opened a o w size owner }) before rows is.number (before-arrival c m n before rows s) refl
stands-deed c m n (lost a) before rows k s is = stands-lost c a (record { moment = m; step = n; deed = lost a }) before rows is.number (before-arrival c m n before rows s) refl
stands-deed c m n (took a) before rows k s is = stands-took c a (record { moment = m; step = n; deed = took a }) before rows is.number (before-arrival c m n before rows s) refl
stands-deed c m n (terminated a j) before rows k s is = stands-terminated c a j (record { moment = m; step = n; deed = terminated a j }) before rows is.number (before-arrival c m n before rows s) refl
stands-deed c m n d before rows k s is = plain-deed c (record { moment = m; step = n; deed = d }) before rows k (before-arrival c m n before rows s) tt is
