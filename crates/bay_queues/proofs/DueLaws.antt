-- Of each control no more terminations wait than are due: what the calls make of the rows and of the controls keeps that.
use Rattle.std.proofs.Common.{◌≡◌, ◌≢◌, ℕ, suc, ◌+◌, ◌-◌, zero, ◌≤◌, ◌<◌, Bool, true, false, List, [], ◌∷◌, ◌++◌, length, map, drop, replicate, refl, sym, ap, ◌∙◌, subst, arith, inl, inr, ◌==◌}
use Rattle.std.specs.Prelude.{Option, None, Some, IfSome, is_some, ◌&&◌, if◌then◌else◌, slice_get}
use Rattle.std.specs.Option.{option_map}
use Rattle.std.specs.List.{list_any}
use Rattle.std.proofs.lemmas.Bool.Decides.{eqb_tells}
use Rattle.std.proofs.lemmas.List.{get_or-set_same, get_or-set_other, get_or-replicate, length-set, length-map, length-replicate}
use Rattle.list_laws.proofs.Places.{same-number as same, other-number as apart}
use Rattle.sv_base.specs.declared.numbers.AssocNo.{AssocNo}
use Rattle.sv_base.specs.declared.numbers.CtlNo.{CtlNo}
use Rattle.sv_base.specs.declared.value.Value.{Value}
use Rattle.bay_model.specs.Model.{Control, Call, select, operate, cancel}
use Rattle.bay_model.specs.Calls.{accepted, mistyped, went_by, first_cause}
use Rattle.bay_model.specs.Commands.{command_of, is_command}
use Rattle.bay_model.specs.Controls.{Execution, Phase, underway, ended, orphaned}
use Rattle.bay_model.specs.Points.{finished, lost}
use Rattle.bay_model.specs.Waiting as queue
use Rattle.bay_model.specs.Waiting.{ends_for, ending}
use Rattle.assoc_table.specs.declared.waiting.Waiting.TheVariants.{Termination}
use Rattle.assoc_table.specs.declared.waiting.Ends.{Ends}
use Rattle.assoc_table.specs.Seats.{Row, closed, controls, IsNew}
use Rattle.assoc_table.specs.Standing.{waiting_of}
use Rattle.assoc_table.specs.Tables as tables
use Rattle.assoc_table.specs.Tables.{IsNumber, row_of, with_row}
use Rattle.control_core.specs.Controls as core
use Rattle.control_core.specs.Controls.{ControlState, idle, done, due, lost_by, stopped, causes_at, went_at}
use Rattle.control_core.proofs.TurnLaws.{no-cause, none-runs}
use Rattle.control_core.specs.Standing.{put_for}
use Rattle.control_core.specs.Tables.{Table, no_control, control_at, changed, after_deed, opened_of}
use Rattle.control_core.specs.TerminationsWait.{endings, due_for, one_for}
use Rattle.control_core.proofs.EndingLaws.{done-puts, loss-other, due-one, due-few}
use Rattle.bay_queues.specs.Queued.{Queued, ends_in, AreDue, IsQueued}
use Rattle.bay_queues.specs.Taken.{after_end}
use Rattle.bay_queues.proofs.RowLaws.{row-same, row-other, ends-append, ends-drop, ends-oldest, none-waits, count-with}

abbrev pub run : Table → ℕ → Option Execution
run t k = (control_at t.controls k).execution

-- for whom a termination is told to be due has a number
pub number-told : (told : Option AssocNo) (o : Option ℕ) → option_map (λ (a : AssocNo). a.0) told ≡ o → IfSome told (λ (a : AssocNo). IsNumber a.0) → (x : ℕ) → o ≡ Some x → IsNumber x
number-told None o is number x some = cc
number-told (Some a) o is number x some = let same : a.0 ≡ x = cc in subst IsNumber same number

-- ---- a row, or the table, is another

-- row a is another, and so are the controls
pub due-moved : (rows : List Row) (t u : Table) (a : ℕ) (row : Row) → length rows ≡ 16 → IsNumber a → AreDue rows t
    → ((k : ℕ) → ends_in k row ≤ due_for a (run u k)) → ((e k : ℕ) → e ≢ a → due_for e (run t k) ≤ due_for e (run u k)) → AreDue (with_row rows a row) u
due-moved rows t u a row count number due here others e k its = elim (eqb_tells e a) [
  | inl is ↦ subst (λ i. ends_in k (row_of (with_row rows a row) i) ≤ due_for i (run u k)) (sym is.1) (subst (λ r. ends_in k r ≤ due_for a (run u k)) (sym (row-same rows a row count number)) (here k))
  | inr differ ↦ subst (λ r. ends_in k r ≤ due_for e (run u k)) (sym (row-other rows a e row number its differ.1)) (omega (arith, due e k its, others e k differ.1))
]

-- only the controls are others
pub due-table : (rows : List Row) (t u : Table) → AreDue rows t → ((e k : ℕ) → due_for e (run t k) ≤ due_for e (run u k)) → AreDue rows u
due-table rows t u due more e k its = omega (arith, due e k its, more e k)

-- control k is another
pub run-same : (t : Table) (k : ℕ) (s : ControlState) → k < length t.controls → run (changed t k s) k ≡ s.execution
run-same t k s below = ap (λ (c : ControlState). c.execution) (get_or-set_same t.controls k s (idle no_control) below)

pub run-other : (t : Table) (k j : ℕ) (s : ControlState) → j ≢ k → run (changed t k s) j ≡ run t j
run-other t k j s differ = ap (λ (c : ControlState). c.execution) (get_or-set_other t.controls k j s (idle no_control) differ)

pub due-changed : (t : Table) (k : ℕ) (s : ControlState) (e : ℕ) → k < length t.controls → due_for e (run t k) ≤ due_for e s.execution → (j : ℕ) → due_for e (run t j) ≤ due_for e (run (changed t k s) j)
due-changed t k s e below more j = elim (eqb_tells j k) [
  | inl is ↦ subst (λ i. due_for e (run t i) ≤ due_for e (run (changed t k s) i)) (sym is.1) (subst (λ x. due_for e (run t k) ≤ due_for e x) (sym (run-same t k s below)) more)
  | inr differ ↦ subst (λ x. due_for e (run t j) ≤ due_for e x) (sym (run-other t k j s differ.1)) (omega arith)
]

-- a control that executes as before
pub due-kept : (t : Table) (k : ℕ) (s : ControlState) → k < length t.controls → s.execution ≡ run t k → (e j : ℕ) → due_for e (run t j) ≤ due_for e (run (changed t k s) j)
due-kept t k s below is e j = due-changed t k s e below (subst (λ x. due_for e (run t k) ≤ due_for e x) (sym is) (omega arith)) j

-- a control that executed nothing
pub due-begun : (t : Table) (k : ℕ) (s : ControlState) → k < length t.controls → run t k ≡ None → (e j : ℕ) → due_for e (run t j) ≤ due_for e (run (changed t k s) j)
due-begun t k s below none e j = due-changed t k s e below (subst (λ x. due_for e x ≤ due_for e s.execution) (sym none) (omega arith)) j

typed-first : (now : ℕ) (call : Call) (a : ℕ) (v : Value) (s : ControlState) → is_command s.config.kind call (command_of v) ≡ true → accepted ≡ went_at now call a v s → went_by (first_cause (causes_at now call a (command_of v) s)) ≡ accepted
typed-first now call a v s typed h = sym (h ∙ ap (λ b. if b then went_by (first_cause (causes_at now call a (command_of v) s)) else mistyped) typed)

pub idle-at-call : (now : ℕ) (call : Call) (a : ℕ) (v : Value) (s : ControlState) → is_command s.config.kind call (command_of v) ≡ true → accepted ≡ went_at now call a v s → s.execution ≡ None
idle-at-call now select a v s typed h = none-runs s.execution (no-cause (is_some s.execution, 12) (drop 1 (causes_at now select a (command_of v) s)) (typed-first now select a v s typed h)).0
idle-at-call now cancel a v s typed h = none-runs s.execution (no-cause (is_some s.execution, 12) (drop 1 (causes_at now cancel a (command_of v) s)) (typed-first now cancel a v s typed h)).0
idle-at-call now operate a v s typed h = none-runs s.execution (no-cause (is_some s.execution, 12) (drop 2 (causes_at now operate a (command_of v) s)) (no-cause (s.config.model == 0, 1) (drop 1 (causes_at now operate a (command_of v) s)) (typed-first now operate a v s typed h)).1).0

-- ---- as they are opened

idle-runs : (cs : List Control) (k : ℕ) → run (opened_of cs) k ≡ None
idle-runs [] k = refl
idle-runs (c ∷ cs) zero = refl
idle-runs (c ∷ cs) (suc k) = idle-runs cs k

pub due-opened : (cs : List Control) → AreDue (replicate 16 closed) (opened_of cs)
due-opened cs a k number = subst (λ (r : Row). ends_in k r ≤ due_for a (run (opened_of cs) k)) (sym (get_or-replicate 16 (a - 1) closed closed (omega (arith, number)))) (omega arith)

-- ---- losses

lost-run : (a : ℕ) (t : Table) (k : ℕ) → run (after_deed (lost a) t) k ≡ core.left a (run t k)
lost-run a t k = by t.controls k where
  by : (cs : List ControlState) (k : ℕ) → (control_at (map (lost_by a) cs) k).execution ≡ core.left a (control_at cs k).execution
  by [] k = refl
  by (s ∷ cs) zero = refl
  by (s ∷ cs) (suc k) = by cs k

pub due-end : (a : ℕ) (q : Queued) → length q.rows ≡ 16 → IsNumber a → AreDue q.rows q.table → AreDue (after_end a q).rows (after_end a q).table
due-end a q count number due = due-moved q.rows q.table (after_deed (lost a) q.table) a closed count number due (λ k. omega arith)
    (λ e k differ. subst (λ x. due_for e (run q.table k) ≤ due_for e x) (sym (lost-run a q.table k)) (omega (arith, loss-other e a (run q.table k) (apart a e differ))))

-- ---- the process ends an execution

-- for whom a termination is due: it wasn't put yet
pub due-none : (a : ℕ) (x : Option Execution) → due x ≡ Some a → due_for a x ≡ 0
due-none a None h = refl
due-none a (Some e) h = by e.phase h where
  by : (p : Phase) → core.due_of e p ≡ Some a → one_for a e.by p ≡ 0
  by underway h = refl
  by ended h = absurd cc
  by orphaned h = refl

-- what is put then is what the model puts
pub puts : (a k : ℕ) (good : Bool) (x : Option Execution) → put_for a k good (due x) ≡ ends_for a k good x
puts a k good None = refl
puts a k good (Some e) = by e.phase where
  both : (b : Bool) → (if b then ending k good ∷ [] else []) ≡ (if b && true then ending k good ∷ [] else [])
  both true = refl
  both false = refl

  none : (b : Bool) → [] ≡ (if b && false then ending k good ∷ [] else [])
  none true = refl
  none false = refl

  by : (p : Phase) → put_for a k good (core.due_of e p) ≡ (if (e.by == a) && queue.is_underway p then ending k good ∷ [] else [])
  by underway = both (e.by == a)
  by ended = none (e.by == a)
  by orphaned = none (e.by == a)

-- what is due by then
pub due-finished : (a k : ℕ) (good : Bool) (x : Option Execution) → due_for a x + endings k (put_for a k good (due x)) ≡ due_for a (core.finished x)
due-finished a k good x = ap (λ ws. due_for a x + endings k ws) (puts a k good x) ∙ done-puts a k k good x (same k)

-- nothing is put
due-still : (q : Queued) (k : CtlNo) → k.0 < length q.table.controls → AreDue q.rows q.table → AreDue q.rows (after_deed (finished k.0 true) q.table)
due-still q k below due = due-table q.rows q.table (after_deed (finished k.0 true) q.table) due
    (λ e j. due-changed q.table k.0 (done (control_at q.table.controls k.0)) e below (omega (arith, due-finished e k.0 true (run q.table k.0))) j)

-- a termination is put for a
module _ (q : Queued) (k : CtlNo) (good : Bool) (a : ℕ) (below : k.0 < length q.table.controls) (is : due (run q.table k.0) ≡ Some a) where
  abbrev row : Row
  row = row_of q.rows a

  abbrev more : Row
  more = record { ends = row.ends; waiting = row.waiting ++ Termination k good ∷ [] }

  put-one : put_for a k.0 good (due (run q.table k.0)) ≡ ending k.0 good ∷ []
  put-one = ap (put_for a k.0 good) is ∙ rw (same a) refl

  after : due_for a (run q.table k.0) + 1 ≡ due_for a (core.finished (run q.table k.0))
  after = sym (ap (λ ws. due_for a (run q.table k.0) + endings k.0 ws) put-one ∙ rw (same k.0) refl) ∙ due-finished a k.0 good (run q.table k.0)

  one-more : (j : ℕ) → AreDue q.rows q.table → IsNumber a → ends_in j more ≤ due_for a (run (after_deed (finished k.0 good) q.table) j)
  one-more j due number = elim (eqb_tells j k.0) [
    | inl it ↦ subst (λ i. ends_in i more ≤ due_for a (run (after_deed (finished k.0 good) q.table) i)) (sym it.1)
        (subst (λ x. ends_in k.0 more ≤ due_for a x) (sym (run-same q.table k.0 (done (control_at q.table.controls k.0)) below))
        (omega (arith, ends-append k.0 row.waiting (Termination k good ∷ []), own, due a k.0 number, after)))
    | inr differ ↦ subst (λ x. ends_in j more ≤ due_for a x) (sym (run-other q.table k.0 j (done (control_at q.table.controls k.0)) differ.1))
        (omega (arith, ends-append j row.waiting (Termination k good ∷ []), other differ.1, due a j number))
  ] where
    own : endings k.0 (map waiting_of (Termination k good ∷ [])) ≡ 1
    own = rw (same k.0) refl

    other : j ≢ k.0 → endings j (map waiting_of (Termination k good ∷ [])) ≡ 0
    other differ = rw (apart k.0 j differ) refl

  pub due-put : length q.rows ≡ 16 → IsNumber a → AreDue q.rows q.table → AreDue (tables.extended q.rows a (Termination k good ∷ [])) (after_deed (finished k.0 good) q.table)
  due-put count number due = due-moved q.rows q.table (after_deed (finished k.0 good) q.table) a more count number due (λ j. one-more j due number)
      (λ e j differ. due-changed q.table k.0 (done (control_at q.table.controls k.0)) e below (omega (arith, due-finished e k.0 good (run q.table k.0))) j)

  -- and none of it waits
  pub due-free : IsNumber a → AreDue q.rows q.table → list_any (λ l. k.0 == l) (controls row.waiting) ≡ false
  due-free number due = none-waits k.0 row.waiting (omega (arith, due a k.0 number, due-none a (run q.table k.0) is))

-- ---- all that is so of the queues and the controls

pub queued-opened : (cs : List Control) → length cs ≤ 64 → IsQueued (replicate 16 closed) (opened_of cs)
queued-opened cs few = record { count = length-replicate 16 closed; few = omega (arith, few, length-map cs idle); due = due-opened cs }

pub queued-start : (rows : List Row) (t : Table) (a : ℕ) (ends : Ends) → IsNumber a → IsQueued rows t → IsQueued (tables.started rows a ends) t
queued-start rows t a ends number is = record {
  count = count-with rows a (record { ends = Some ends; waiting = [] }) is.count;
  few = is.few;
  due = due-moved rows t t a (record { ends = Some ends; waiting = [] }) is.count number is.due (λ k. omega arith) (λ e k differ. omega arith);
}

pub queued-end : (rows : List Row) (t : Table) (a : ℕ) → IsNumber a → IsQueued rows t → IsQueued (tables.ended rows a) (after_deed (lost a) t)
queued-end rows t a number is = record {
  count = count-with rows a closed is.count;
  few = omega (arith, is.few, length-map t.controls (lost_by a));
  due = due-end a (record { rows = rows; table = t }) is.count number is.due;
}

-- at another moment
pub queued-moment : (rows : List Row) (t : Table) (moment : ℕ) → IsQueued rows t → IsQueued rows (record t { moment = moment })
queued-moment rows t moment is = record { count = is.count; few = is.few; due = is.due }

-- one control is another, which executes as before
pub queued-kept : (rows : List Row) (t : Table) (k : ℕ) (s : ControlState) → k < length t.controls → s.execution ≡ run t k → IsQueued rows t → IsQueued rows (changed t k s)
queued-kept rows t k s below same is = record { count = is.count; few = omega (arith, is.few, length-set t.controls k s); due = due-table rows t (changed t k s) is.due (due-kept t k s below same) }

-- or which executed nothing
pub queued-begun : (rows : List Row) (t : Table) (k : ℕ) (s : ControlState) → k < length t.controls → run t k ≡ None → IsQueued rows t → IsQueued rows (changed t k s)
queued-begun rows t k s below none is = record { count = is.count; few = omega (arith, is.few, length-set t.controls k s); due = due-table rows t (changed t k s) is.due (due-begun t k s below none) }

-- the process ended what it executed
pub queued-still : (rows : List Row) (t : Table) (k : CtlNo) (good : Bool) → k.0 < length t.controls → IsQueued rows t → IsQueued rows (after_deed (finished k.0 good) t)
queued-still rows t k good below is = record {
  count = is.count;
  few = omega (arith, is.few, length-set t.controls k.0 (done (control_at t.controls k.0)));
  due = due-still (record { rows = rows; table = t }) k below is.due;
}

pub queued-put : (rows : List Row) (t : Table) (k : CtlNo) (good : Bool) (a : ℕ) → k.0 < length t.controls → due (run t k.0) ≡ Some a → IsNumber a → IsQueued rows t
    → IsQueued (tables.extended rows a (Termination k good ∷ [])) (after_deed (finished k.0 good) t)
queued-put rows t k good a below is-due number is = record {
  count = count-with rows a (record { ends = (row_of rows a).ends; waiting = (row_of rows a).waiting ++ Termination k good ∷ [] }) is.count;
  few = omega (arith, is.few, length-set t.controls k.0 (done (control_at t.controls k.0)));
  due = due-put (record { rows = rows; table = t }) k good a below is-due is.count number is.due;
}

-- no termination of the control waits for the association for which one is due
pub is-new : (rows : List Row) (t : Table) (k : CtlNo) (good : Bool) (a : ℕ) → k.0 < length t.controls → due (run t k.0) ≡ Some a → IsNumber a → IsQueued rows t → IsNew (Termination k good) (row_of rows a).waiting
is-new rows t k good a below is-due number is = (omega (arith, below, is.few), due-free (record { rows = rows; table = t }) k good a below is-due number is.due)

-- what waits longest was taken: a reply, or the termination of a command that runs no longer
pub queued-taken : (rows : List Row) (t : Table) (a : ℕ) → IsNumber a → IsQueued rows t → IsQueued (tables.taken rows a) t
queued-taken rows t a number is = record {
  count = count-with rows a (record { ends = (row_of rows a).ends; waiting = drop 1 (row_of rows a).waiting }) is.count;
  few = is.few;
  due = due-moved rows t t a (record { ends = (row_of rows a).ends; waiting = drop 1 (row_of rows a).waiting }) is.count number is.due
      (λ k. omega (arith, is.due a k number, ends-drop k (row_of rows a).waiting)) (λ e k differ. omega arith);
}

-- where one waits for a, the command is a's, so none waits for another, and after it none for a
pub queued-ended : (rows : List Row) (t : Table) (a : ℕ) (k : CtlNo) (good : Bool) → IsNumber a → k.0 < length t.controls → slice_get (row_of rows a).waiting 0 ≡ Some (Termination k good) → IsQueued rows t
    → IsQueued (tables.taken rows a) (changed t k.0 (stopped (control_at t.controls k.0)))
queued-ended rows t a k good number below first is = record {
  count = count-with rows a left is.count;
  few = omega (arith, is.few, length-set t.controls k.0 s);
  due = λ e j its. elim (eqb_tells j k.0) [ inl is-k ↦ mine e j its is-k.1 | inr differ ↦ other-than e j its differ.1 ];
} where
  s : ControlState
  s = stopped (control_at t.controls k.0)

  left : Row
  left = record { ends = (row_of rows a).ends; waiting = drop 1 (row_of rows a).waiting }

  one : 1 ≤ due_for a (run t k.0)
  one = omega (arith, is.due a k.0 number, ends-oldest k good (row_of rows a).waiting first)

  -- of the control none is left
  own : (e : ℕ) → IsNumber e → (e ≡ a → ⊥) → ends_in k.0 (row_of rows e) ≡ 0
  own e its differ = omega (arith, is.due e k.0 its, due-one a e (run t k.0) one differ)

  behind : ends_in k.0 left ≡ 0
  behind = omega (arith, is.due a k.0 number, ends-oldest k good (row_of rows a).waiting first, due-few a (run t k.0))

  still : (e j : ℕ) → IsNumber e → j ≢ k.0 → ends_in j (row_of (with_row rows a left) e) ≤ due_for e (run t j)
  still e j its differ = elim (eqb_tells e a) [
    | inl same_ ↦ subst (λ i. ends_in j (row_of (with_row rows a left) i) ≤ due_for i (run t j)) (sym same_.1) (subst (λ r. ends_in j r ≤ due_for a (run t j)) (sym (row-same rows a left is.count number)) (omega (arith, is.due a j number, ends-drop j (row_of rows a).waiting)))
    | inr other ↦ subst (λ r. ends_in j r ≤ due_for e (run t j)) (sym (row-other rows a e left number its other.1)) (is.due e j its)
  ]

  none : (e : ℕ) → IsNumber e → ends_in k.0 (row_of (with_row rows a left) e) ≡ 0
  none e its = elim (eqb_tells e a) [
    | inl same_ ↦ subst (λ i. ends_in k.0 (row_of (with_row rows a left) i) ≡ 0) (sym same_.1) (ap (ends_in k.0) (row-same rows a left is.count number) ∙ behind)
    | inr other ↦ ap (ends_in k.0) (row-other rows a e left number its other.1) ∙ own e its other.1
  ]

  mine : (e j : ℕ) → IsNumber e → j ≡ k.0 → ends_in j (row_of (with_row rows a left) e) ≤ due_for e (run (changed t k.0 s) j)
  mine e j its is-k = subst (λ i. ends_in i (row_of (with_row rows a left) e) ≤ due_for e (run (changed t k.0 s) i)) (sym is-k) (omega (arith, none e its))

  other-than : (e j : ℕ) → IsNumber e → j ≢ k.0 → ends_in j (row_of (with_row rows a left) e) ≤ due_for e (run (changed t k.0 s) j)
  other-than e j its differ = subst (λ y. ends_in j (row_of (with_row rows a left) e) ≤ due_for e y) (sym (run-other t k.0 j s differ)) (still e j its differ)

-- ---- the termination that waits longest

due-within : (a : ℕ) (xs : List ControlState) (j : ℕ) → 1 ≤ due_for a (control_at xs j).execution → j < length xs
due-within a [] j one = absurd (omega (arith, one))
due-within a (x ∷ xs) zero one = omega arith
due-within a (x ∷ xs) (suc j) one = omega (arith, due-within a xs j one)

due-some : (a : ℕ) (x : Option Execution) → 1 ≤ due_for a x → is_some x ≡ true
due-some a None one = absurd (omega (arith, one))
due-some a (Some e) one = refl

due-oldest : (rows : List Row) (t : Table) (a : ℕ) (k : CtlNo) (good : Bool) → IsNumber a → slice_get (row_of rows a).waiting 0 ≡ Some (Termination k good) → IsQueued rows t → 1 ≤ due_for a (run t k.0)
due-oldest rows t a k good number first is = omega (arith, is.due a k.0 number, ends-oldest k good (row_of rows a).waiting first)

-- its control is there, and executes a command
pub there-oldest : (rows : List Row) (t : Table) (a : ℕ) (k : CtlNo) (good : Bool) → IsNumber a → slice_get (row_of rows a).waiting 0 ≡ Some (Termination k good) → IsQueued rows t → k.0 < length t.controls
there-oldest rows t a k good number first is = due-within a t.controls k.0 (due-oldest rows t a k good number first is)

pub runs-oldest : (rows : List Row) (t : Table) (a : ℕ) (k : CtlNo) (good : Bool) → IsNumber a → slice_get (row_of rows a).waiting 0 ≡ Some (Termination k good) → IsQueued rows t → is_some (run t k.0) ≡ true
runs-oldest rows t a k good number first is = due-some a (run t k.0) (due-oldest rows t a k good number first is)
