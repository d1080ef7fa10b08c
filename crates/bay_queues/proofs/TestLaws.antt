-- The terminations of a request's tests: each is due and none of them waits, until they are put after the reply.
use Rattle.std.proofs.Common.{◌≡◌, ◌≢◌, ℕ, zero, suc, ◌+◌, ◌-◌, ◌≤◌, ◌<◌, Bool, true, false, List, [], ◌∷◌, ◌++◌, length, map, drop, take, refl, sym, ap, ◌∙◌, subst, arith, inl, inr, ◌==◌, append-nil, append_assoc}
use Rattle.std.specs.Prelude.{None, ◌&&◌, ◌||◌, if◌then◌else◌, slice_index_or}
use Rattle.std.specs.List.{list_any}
use Rattle.std.proofs.lemmas.List.{length-set, set-set, set-get_or}
use Rattle.list_laws.proofs.Among.{Among, all-of, of-all, ending as among-ending}
use Rattle.list_laws.proofs.Truths.{or-left, or-right}
use Rattle.list_laws.proofs.Places.{same-number as same, other-number as apart, swap-number, same-of}
use Rattle.sv_base.specs.declared.numbers.CtlNo.{CtlNo}
use Rattle.sv_base.specs.declared.value.Value.{Value}
use Rattle.bay_model.specs.Commands.{is_test}
use Rattle.bay_model.specs.Model.{Call, operate}
use Rattle.bay_model.specs.Points.{called}
use Rattle.bay_model.specs.declared.answer.Output.{Output}
use Rattle.assoc_table.specs.declared.waiting.Waiting.{Waiting}
use Rattle.assoc_table.specs.declared.waiting.Waiting.TheVariants.{Reply, Termination}
use Rattle.assoc_table.specs.Seats.{Row, AreApart, IsNew, closed}
use Rattle.assoc_table.specs.Standing.{waiting_of}
use Rattle.assoc_table.specs.Tables as tables
use Rattle.assoc_table.specs.Tables.{IsNumber, row_of}
use Rattle.control_core.specs.Controls.{ControlState, is_enhanced, called_by, operated_by}
use Rattle.control_core.specs.Tables.{control_at, changed, after_deed}
use Rattle.control_core.specs.TerminationsWait.{endings, due_for}
use Rattle.bay_queues.specs.Calling.{IsTest, AreTests, AreFree, enhanced_in}
use Rattle.bay_queues.specs.Heard.{ctl_no, tests_in}
use Rattle.bay_queues.specs.Queued.{Queued, ends_in, AreDue, IsQueued}
use Rattle.bay_queues.specs.Taken.{reply_and}
use Rattle.bay_queues.proofs.DueLaws.{run, run-same, run-other, due-moved}
use Rattle.bay_queues.proofs.RowLaws.{row-same, count-with, ends-append, none-waits}

abbrev number : CtlNo → ℕ
number k = k.0

-- control k is another, which executed nothing
module _ (q : Queued) (a k : ℕ) (s : ControlState) (none : run q.table k ≡ None) (count : length (changed q.table k s).controls ≡ length q.table.controls) where
  abbrev new : Queued
  new = record q { table = changed q.table k s }

  -- no test is of it
  other : (j : CtlNo) → IsTest q a j → j.0 ≢ k
  other j t is = absurd (omega (arith, one)) where
    one : zero ≡ suc zero
    one = sym (ap (due_for a) (subst (λ i. run q.table i ≡ None) (sym is) none)) ∙ t.due

  kept : (j : CtlNo) → IsTest q a j → IsTest new a j
  kept j t = record {
    there = omega (arith, t.there, count);
    due = ap (due_for a) (run-other q.table k j.0 s (other j t)) ∙ t.due;
    free = t.free;
  }

  pub tests-kept : (ks : List CtlNo) → AreTests q a ks → AreTests new a ks
  tests-kept ks h = record { apart = h.apart; each = λ i d below. kept _ (h.each i d below) }

  -- and it is one more of them
  not-among : (ks : List CtlNo) → AreTests q a ks → (j : CtlNo) → Among j ks → j.0 ≢ k
  not-among ks h j among = other j (of-all (IsTest q a) ks j h.each among)

  differs : (j : ℕ) (is : List CtlNo) → j ≢ k → list_any (λ l. j == l) (map number is) ≡ false → list_any (λ l. j == l) (map number (is ++ ctl_no k ∷ [])) ≡ false
  differs j [] differ e = rw (apart j k (λ e. differ (sym e))) refl
  differs j (i ∷ is) differ e = by (j == i.0) refl e (differs j is differ) where
    by : (b : Bool) → (j == i.0) ≡ b → b || list_any (λ l. j == l) (map number is) ≡ false → (list_any (λ l. j == l) (map number is) ≡ false → list_any (λ l. j == l) (map number (is ++ ctl_no k ∷ [])) ≡ false)
        → (j == i.0) || list_any (λ l. j == l) (map number (is ++ ctl_no k ∷ [])) ≡ false
    by true t e rest = absurd cc
    by false t e rest = rw t (rest e)

  apart-more : (ks : List CtlNo) → AreApart (map number ks) → ((j : CtlNo) → Among j ks → j.0 ≢ k) → AreApart (map number (ks ++ ctl_no k ∷ []))
  apart-more [] h differ = (refl, tt)
  apart-more (j ∷ js) h differ = (differs j.0 js (differ j (inl refl)) h.0, apart-more js h.1 (λ i among. differ i (inr among)))

  pub tests-more : (ks : List CtlNo) → AreTests q a ks → IsTest new a (ctl_no k) → AreTests new a (ks ++ ctl_no k ∷ [])
  tests-more ks h one = record {
    apart = apart-more ks h.apart (not-among ks h);
    each = all-of (IsTest new a) (ks ++ ctl_no k ∷ []) (λ j among. elim (among-ending j ks (ctl_no k) among) [
      | inl is ↦ kept j (of-all (IsTest q a) ks j h.each is)
      | inr is ↦ subst (IsTest new a) (sym is) one
    ]);
  }

-- ---- a call of a control that executes nothing

module _ (q : Queued) (a k : ℕ) (v : Value) (below : k < length q.table.controls) (none : run q.table k ≡ None) where
  abbrev s : ControlState
  s = control_at q.table.controls k

  abbrev pub after-call : Call → Queued
  after-call call = record q { table = after_deed (called a k call v) q.table }

  count-call : (c : ControlState) → length (changed q.table k c).controls ≡ length q.table.controls
  count-call c = length-set q.table.controls k c

  pub call-kept : (call : Call) (ks : List CtlNo) → AreTests q a ks → AreTests (after-call call) a ks
  call-kept call ks h = tests-kept q a k (called_by q.table.moment call a v s) none (count-call (called_by q.table.moment call a v s)) ks h

  -- what runs then is due at once
  is-due : is_enhanced s ≡ true → is_test v ≡ true → due_for a (operated_by q.table.moment a v s).execution ≡ 1
  is-due enhanced test = rw (enhanced, test, same a) refl

  is-test : IsNumber a → AreDue q.rows q.table → is_enhanced s ≡ true → is_test v ≡ true → IsTest (after-call operate) a (ctl_no k)
  is-test number due enhanced test = record {
    there = omega (arith, below, count-call (operated_by q.table.moment a v s));
    due = ap (due_for a) (run-same q.table k (operated_by q.table.moment a v s) below) ∙ is-due enhanced test;
    free = omega (arith, due a k number, nothing-due);
  } where
    nothing-due : due_for a (run q.table k) ≡ 0
    nothing-due = ap (due_for a) none

  pub operate-tests : IsNumber a → AreDue q.rows q.table → (ks : List CtlNo) → AreTests q a ks → AreTests (after-call operate) a (ks ++ map ctl_no (tests_in (enhanced_in q.table) (called a k operate v)))
  operate-tests number due ks h = by (is_enhanced s) (is_test v) refl refl where
    by : (e t : Bool) → is_enhanced s ≡ e → is_test v ≡ t → AreTests (after-call operate) a (ks ++ map ctl_no (if e && t then k ∷ [] else []))
    by true true enhanced test = tests-more q a k (operated_by q.table.moment a v s) none (count-call (operated_by q.table.moment a v s)) ks h (is-test number due enhanced test)
    by true false enhanced test = subst (λ js. AreTests (after-call operate) a js) (sym (append-nil ks)) (call-kept operate ks h)
    by false t enhanced test = subst (λ js. AreTests (after-call operate) a js) (sym (append-nil ks)) (call-kept operate ks h)

-- ---- terminations that are put one after another

any-at : (k : ℕ) (ks : List CtlNo) (i : ℕ) (d : CtlNo) → i < length ks → list_any (λ l. k == l) (map number ks) ≡ false → (k == (slice_index_or ks i d).0) ≡ false
any-at k [] i d below h = absurd (omega (arith, below))
any-at k (j ∷ js) zero d below h = or-left (k == j.0) (list_any (λ l. k == l) (map number js)) h
any-at k (j ∷ js) (suc i) d below h = any-at k js i d (omega (arith, below)) (or-right (k == j.0) (list_any (λ l. k == l) (map number js)) h)

one-other : (k : CtlNo) (j : ℕ) → (k.0 == j) ≡ false → endings j (map waiting_of (Termination k true ∷ [])) ≡ 0
one-other k j h = rw h refl

pub free-new : (ws : List Waiting) (k : CtlNo) (ks : List CtlNo) → AreFree ws (k ∷ ks) → IsNew (Termination k true) ws
free-new ws k ks h = (h.low 0 k (omega arith), none-waits k.0 ws (h.none 0 k (omega arith)))

pub free-rest : (ws : List Waiting) (k : CtlNo) (ks : List CtlNo) → AreFree ws (k ∷ ks) → AreFree (ws ++ Termination k true ∷ []) ks
free-rest ws k ks h = record {
  apart = h.apart.1;
  low = λ i d below. h.low (suc i) d (omega (arith, below));
  none = λ i d below. omega (
    arith,
    ends-append (slice_index_or ks i d).0 ws (Termination k true ∷ []),
    h.none (suc i) d (omega (arith, below)),
    one-other k (slice_index_or ks i d).0 (any-at k.0 ks i d below h.apart.0),
  );
}

pub extended-nil : (rows : List Row) (a : ℕ) → tables.extended rows a [] ≡ rows
extended-nil rows a = ap (λ ws. tables.with_row rows a (record { ends = (row_of rows a).ends; waiting = ws })) (append-nil (row_of rows a).waiting) ∙ set-get_or rows (a - 1) closed

pub row-more : (rows : List Row) (a : ℕ) (xs : List Waiting) → length rows ≡ 16 → IsNumber a → row_of (tables.extended rows a xs) a ≡ record { ends = (row_of rows a).ends; waiting = (row_of rows a).waiting ++ xs }
row-more rows a xs count is = row-same rows a (record { ends = (row_of rows a).ends; waiting = (row_of rows a).waiting ++ xs }) count is

pub count-more : (rows : List Row) (a : ℕ) (xs : List Waiting) → length rows ≡ 16 → length (tables.extended rows a xs) ≡ 16
count-more rows a xs count = count-with rows a (record { ends = (row_of rows a).ends; waiting = (row_of rows a).waiting ++ xs }) count

pub extended-more : (rows : List Row) (a : ℕ) (xs ys : List Waiting) → length rows ≡ 16 → IsNumber a → tables.extended (tables.extended rows a xs) a ys ≡ tables.extended rows a (xs ++ ys)
extended-more rows a xs ys count is =
    ap (λ (r : Row). tables.with_row (tables.extended rows a xs) a (record { ends = r.ends; waiting = r.waiting ++ ys })) (row-more rows a xs count is)
    ∙ (set-set rows (a - 1) (record { ends = (row_of rows a).ends; waiting = (row_of rows a).waiting ++ xs }) (record { ends = (row_of rows a).ends; waiting = ((row_of rows a).waiting ++ xs) ++ ys })
    ∙ ap (λ ws. tables.with_row rows a (record { ends = (row_of rows a).ends; waiting = ws })) (append_assoc (row_of rows a).waiting xs ys))

-- what is put with the terminations of tests is due
tests-of : (q : Queued) (a : ℕ) (ks : List CtlNo) (output : Output) → length q.table.controls ≤ 64 → AreTests q a ks → AreFree ((row_of q.rows a).waiting ++ Reply output ∷ []) ks
tests-of q a ks output few h = record {
  apart = h.apart;
  low = λ i d below. omega (arith, few, (h.each i d below).there);
  none = λ i d below. omega (arith, ends-append (slice_index_or ks i d).0 (row_of q.rows a).waiting (Reply output ∷ []), (h.each i d below).free);
}

pub free-tests : (q : Queued) (a : ℕ) (ks : List CtlNo) (output : Output) (row : Row) → row ≡ record { ends = (row_of q.rows a).ends; waiting = (row_of q.rows a).waiting ++ Reply output ∷ [] } → length q.table.controls ≤ 64 → AreTests q a ks → AreFree row.waiting ks
free-tests q a ks output row is few h = subst (λ (r : Row). AreFree r.waiting ks) (sym is) (tests-of q a ks output few h)

-- and stays so
told-ends : (ks : List CtlNo) (j : ℕ) → list_any (λ l. j == l) (map number ks) ≡ false → endings j (map waiting_of (map (λ k. Termination k true) ks)) ≡ 0
told-ends [] j h = refl
told-ends (k ∷ ks) j h = rw (swap-number k.0 j ∙ or-left (j == k.0) (list_any (λ l. j == l) (map number ks)) h) (told-ends ks j (or-right (j == k.0) (list_any (λ l. j == l) (map number ks)) h))

told-once : (q : Queued) (a : ℕ) (ks : List CtlNo) → AreTests q a ks → (j : ℕ) → ends_in j (row_of q.rows a) ≤ due_for a (run q.table j) → ends_in j (row_of q.rows a) + endings j (map waiting_of (map (λ k. Termination k true) ks)) ≤ due_for a (run q.table j)
told-once q a [] h j low = omega (arith, low)
told-once q a (k ∷ ks) h j low = by (k.0 == j) refl (told-once q a ks (record { apart = h.apart.1; each = λ i d below. h.each (suc i) d (omega (arith, below)) }) j low) where
  by : (b : Bool) → (k.0 == j) ≡ b → ends_in j (row_of q.rows a) + endings j (map waiting_of (map (λ k. Termination k true) ks)) ≤ due_for a (run q.table j)
      → ends_in j (row_of q.rows a) + (if b then suc (endings j (map waiting_of (map (λ k. Termination k true) ks))) else endings j (map waiting_of (map (λ k. Termination k true) ks))) ≤ due_for a (run q.table j)
  by true e rest = subst (λ i. ends_in i (row_of q.rows a) + suc (endings i (map waiting_of (map (λ k. Termination k true) ks))) ≤ due_for a (run q.table i)) (same-of k.0 j e)
      (omega (arith, (h.each 0 k (omega arith)).free, (h.each 0 k (omega arith)).due, told-ends ks k.0 h.apart.0))
  by false e rest = rest

-- all that is so of the queues when a reply was put, and after it the terminations of tests
pub queued-reply : (q : Queued) (a : ℕ) (output : Output) (ks : List CtlNo) → IsNumber a → AreTests q a ks → IsQueued q.rows q.table → IsQueued (tables.extended q.rows a (reply_and output ks)) q.table
queued-reply q a output ks number are is = record {
  count = count-more q.rows a (reply_and output ks) is.count;
  few = is.few;
  due = due-moved q.rows q.table q.table a (record { ends = (row_of q.rows a).ends; waiting = (row_of q.rows a).waiting ++ reply_and output ks }) is.count number is.due
      (λ j. omega (arith, ends-append j (row_of q.rows a).waiting (reply_and output ks), told-once q a ks are j (is.due a j number))) (λ e j other. omega arith);
}

pub uncons : (ks : List CtlNo) (d : CtlNo) → 1 ≤ length ks → ks ≡ slice_index_or ks 0 d ∷ drop 1 ks
uncons [] d h = absurd (omega (arith, h))
uncons (k ∷ ks) d h = refl

take-all : (ks : List CtlNo) → take (length ks) ks ≡ ks
take-all [] = refl
take-all (k ∷ ks) = ap (λ js. k ∷ js) (take-all ks)

-- what stands after the first
pub rest-is : (ks : List CtlNo) → take (length ks - 1) (drop 1 ks) ≡ drop 1 ks
rest-is [] = refl
rest-is (k ∷ ks) = let n : suc (length ks) - 1 ≡ length ks = omega arith in ap (λ m. take m ks) n ∙ take-all ks
