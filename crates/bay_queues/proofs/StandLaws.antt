-- What the queues and the controls stand for, point by point.
use Rattle.std.proofs.Common.{◌≡◌, ◌≢◌, ℕ, zero, suc, ◌≤◌, ◌<◌, Bool, true, List, [], ◌∷◌, length, map, drop, replicate, refl, sym, ap, ap₂, ◌∙◌, subst, arith}
use Rattle.std.specs.Prelude.{Option, None, Some, if◌then◌else◌, slice_get}
use Rattle.std.specs.Option.{option_map, option_map_or, option_and_then}
use Rattle.list_laws.proofs.Places.{same-number as same, other-number as apart}
use Rattle.sv_base.specs.declared.numbers.CtlNo.{CtlNo}
use Rattle.sv_base.specs.declared.value.Value.{Value}
use Rattle.sv_base.specs.declared.value.Value.TheVariants as kinds
use Rattle.bay_model.specs.declared.answer.Output.{Output}
use Rattle.bay_model.specs.declared.answer.Output.TheVariants as outputs
use Rattle.bay_model.specs.Controls as controls
use Rattle.bay_model.specs.Controls.{Execution, execution}
use Rattle.bay_model.specs.Model.{Model, Call, operate}
use Rattle.bay_model.specs.Outputs.{output_of, error_of}
use Rattle.bay_model.specs.Points.{Change, Deed, Point, Past, now, finished, answered, took, terminated}
use Rattle.bay_model.specs.Calls.{Went, accepted, mistyped, barred, went}
use Rattle.bay_model.specs.Singles.{arrival}
use Rattle.bay_model.specs.Takes.{deed_of_waiting}
use Rattle.bay_model.specs.Waiting as queue
use Rattle.bay_model.specs.Waiting.{waiting, tests, put_by, ends_for, ending}
use Rattle.bay_model.specs.Writes.{outcome_of_call}
use Rattle.assoc_table.specs.declared.waiting.Waiting.{Waiting}
use Rattle.assoc_table.specs.declared.waiting.Waiting.TheVariants.{Reply, Termination}
use Rattle.assoc_table.specs.Coming.{Coming, IsComing, nothing_put}
use Rattle.assoc_table.specs.Seats.{closed}
use Rattle.assoc_table.specs.Standing.{waiting_of}
use Rattle.assoc_table.specs.Tables.{IsNumber, row_of}
use Rattle.assoc_table.proofs.StandLaws as seats
use Rattle.bay_model.proofs.CallLaws.{calls_come_to_one}
use Rattle.control_core.specs.Controls.{ControlState, due, error_at, terminations, went_at}
use Rattle.control_core.specs.Controls as core
use Rattle.control_core.specs.Standing.{Stands as ControlsStand, at_past, put_for, point_of}
use Rattle.control_core.specs.Tables.{Table, control_at, at_moment, opened_of}
use Rattle.control_core.specs.TerminationsWait.{due_for}
use Rattle.control_core.proofs.StandLaws as tables
use Rattle.bay_queues.specs.Calling.{enhanced_in, outcome_by, outcome_at}
use Rattle.bay_queues.specs.Queued.{Queued, IsQueued}
use Rattle.bay_queues.specs.Standing.{Stands, coming_of, reply_coming, passed_by}
use Rattle.bay_queues.specs.Taken.{given_of, oldest, next_of, after_take}
use Rattle.bay_queues.proofs.DueLaws.{puts, run}
use Rattle.bay_queues.proofs.RowLaws.{ends-oldest}

pub stands-opened : (c : Model) → Stands (record { rows = replicate 16 closed; table = opened_of c.controls }) c []
stands-opened c = record { associations = seats.stands-empty c; controls = tables.stands-opened c }

pub stands-arrival : (c : Model) (n m : ℕ) (before : Past) (q : Queued) → Stands q c before → Stands (record q { table = at_moment (now (arrival n m ∷ before)) q.table }) c (arrival n m ∷ before)
stands-arrival c n m before q s = record { associations = seats.stands-arrival c m n before q.rows s.associations; controls = tables.stands-arrival c n m before q.table s.controls }

pub stands-deed : (c : Model) (n m : ℕ) (d : Deed) (k : Coming) (before : Past) (q : Queued) → Stands q c (arrival n m ∷ before) → IsComing k c n d before → Stands (passed_by d k q) c (point_of n m d ∷ before)
stands-deed c n m d k before q s is = record { associations = seats.stands-deed c m n d before q.rows k s.associations is; controls = tables.stands-deed c n m d before q.table s.controls }

pub stands-again : (c : Model) (n m : ℕ) (p : Point) (before : Past) (q : Queued) → m ≤ now (p ∷ before) → Stands q c (p ∷ before) → Stands q c (arrival n m ∷ p ∷ before)
stands-again c n m p before q low s = record { associations = seats.stands-arrival c m n (p ∷ before) q.rows s.associations; controls = tables.stands-again c n m p before q.table low s.controls }

-- ---- calls

-- what stands at a control's number is what the model has there
at : (c : Model) (k : ℕ) (past : Past) (q : Queued) → Stands q c past → k < length c.controls → control_at q.table.controls k ≡ at_past c k past
at c k past q s below = s.controls.each k below

went-is : (c : Model) (k : ℕ) (call : Call) (a : ℕ) (v : Value) (past : Past) (t : Table) → ControlsStand t c past → k < length c.controls → went_at t.moment call a v (control_at t.controls k) ≡ went c k call a v past
went-is c k call a v past t s below = sym ((tables.comes-to_one c k call a v past t (went c k call a v past) s below).0 ((calls_come_to_one c k call a v past (went c k call a v past)).1 refl))

comes : (c : Model) (a k : ℕ) (call : Call) (v : Value) (past : Past) (w : Went) → outcome_by a k call v (at_past c k past) w ≡ outcome_of_call c a k call v w
comes c a k call v past accepted = refl
comes c a k call v past mistyped = refl
comes c a k call v past (barred cause) = refl

pub call-comes : (c : Model) (a k : ℕ) (call : Call) (v : Value) (past : Past) (q : Queued) → Stands q c past → k < length c.controls → outcome_at q.table a k call v ≡ outcome_of_call c a k call v (went c k call a v past)
call-comes c a k call v past q s below =
    ap₂ (λ x w. outcome_by a k call v x w) (at c k past q s below) (went-is c k call a v past q.table s.controls below) ∙ comes c a k call v past (went c k call a v past)

pub enhanced-is : (c : Model) (k : ℕ) (past : Past) (q : Queued) → Stands q c past → k < length c.controls → enhanced_in q.table k ≡ controls.is_enhanced c k
enhanced-is c k past q s below = ap core.is_enhanced (at c k past q s below)

-- ---- what comes to wait

runs : (c : Model) (n m k : ℕ) (before : Past) (q : Queued) → Stands q c (arrival n m ∷ before) → k < length c.controls → run q.table k ≡ execution c k before
runs c n m k before q s below = ap (λ (x : ControlState). x.execution) (at c k (arrival n m ∷ before) q s below)

module _ (k : CtlNo) (good : Bool) (x : Option Execution) where
  -- of one that is due it is put for its association alone
  pub ends-own : (a : ℕ) → due x ≡ Some a → ends_for a k.0 good x ≡ ending k.0 good ∷ []
  ends-own a is = sym (puts a k.0 good x) ∙ (ap (put_for a k.0 good) is ∙ rw (same a) refl)

  pub ends-other : (a e : ℕ) → due x ≡ Some a → e ≢ a → ends_for e k.0 good x ≡ []
  ends-other a e is differ = sym (puts e k.0 good x) ∙ (ap (put_for e k.0 good) is ∙ rw (apart a e differ) refl)

  pub ends-none : (e : ℕ) → due x ≡ None → ends_for e k.0 good x ≡ []
  ends-none e is = sym (puts e k.0 good x) ∙ ap (put_for e k.0 good) is

done-by : (c : Model) (n : ℕ) (k : CtlNo) (good : Bool) (before : Past) (o : Option ℕ) → due (execution c k.0 before) ≡ o → ((a : ℕ) → o ≡ Some a → IsNumber a) → IsComing (coming_of o k good) c n (finished k.0 good) before
done-by c n k good before None is numbers = record {
  number = tt;
  puts = ends-none k good (execution c k.0 before) 0 is;
  for_one = λ some. absurd (some refl);
  for_no_other = λ e differ. ends-none k good (execution c k.0 before) e is;
}
done-by c n k good before (Some a) is numbers = record {
  number = tt;
  puts = ends-own k good (execution c k.0 before) a is;
  for_one = λ some. numbers a refl;
  for_no_other = λ e differ. ends-other k good (execution c k.0 before) a e is differ;
}

pub done-comes : (c : Model) (n m : ℕ) (k : CtlNo) (good : Bool) (before : Past) (q : Queued) → Stands q c (arrival n m ∷ before) → IsQueued q.rows q.table → k.0 < length c.controls
    → ((a : ℕ) → due (run q.table k.0) ≡ Some a → IsNumber a) → IsComing (coming_of (due (run q.table k.0)) k good) c n (finished k.0 good) before
done-comes c n m k good before q s is below numbers = done-by c n k good before (due (run q.table k.0)) (sym (ap due (runs c n m k.0 before q s below))) numbers

tests-wait : (ks : List CtlNo) → map (λ j. ending j true) (map (λ (k : CtlNo). k.0) ks) ≡ map waiting_of (map (λ k. Termination k true) ks)
tests-wait [] = refl
tests-wait (k ∷ ks) = ap (λ ws. ending k.0 true ∷ ws) (tests-wait ks)

pub reply-comes : (c : Model) (n a : ℕ) (output : Output) (change : Change) (ks : List CtlNo) (before : Past) → IsNumber a → map (λ (k : CtlNo). k.0) ks ≡ tests c n before
    → IsComing (reply_coming a output ks) c n (answered a output change) before
reply-comes c n a output change ks before is told = record {
  number = tt;
  puts = rw (same a) (ap (λ ws. queue.reply output ∷ ws) (ap (map (λ j. ending j true)) (sym told) ∙ tests-wait ks));
  for_one = λ some. is;
  for_no_other = λ e differ. rw (apart a e differ) refl;
}

-- ---- what is taken

first-waits : (ws : List Waiting) (w : Waiting) → slice_get ws 0 ≡ Some w → ws ≡ w ∷ drop 1 ws
first-waits [] w h = absurd cc
first-waits (v ∷ ws) w h = let is : v ≡ w = cc in ap (λ x. x ∷ ws) is

module _ (c : Model) (n m a : ℕ) (before : Past) (q : Queued) (s : Stands q c (arrival n m ∷ before)) (is : IsQueued q.rows q.table) (number : IsNumber a) where
  abbrev ws : List Waiting
  ws = (row_of q.rows a).waiting

  waits : (w : Waiting) → oldest a q ≡ Some w → waiting c a (arrival n m ∷ before) ≡ waiting_of w ∷ map waiting_of (drop 1 ws)
  waits w h = sym ((s.associations.each a number).waiting) ∙ ap (map waiting_of) (first-waits ws w h)

  -- a control whose termination waits is there, and executes a command
  runs-still : (k : CtlNo) (good : Bool) → oldest a q ≡ Some (Termination k good) → 1 ≤ due_for a (run q.table k.0)
  runs-still k good h = omega (arith, is.due a k.0 number, ends-oldest k good ws h)

  there : (k : CtlNo) (good : Bool) → oldest a q ≡ Some (Termination k good) → k.0 < length c.controls
  there k good h = omega (arith, s.controls.count, within q.table.controls k.0 (runs-still k good h)) where
    within : (xs : List ControlState) (j : ℕ) → 1 ≤ due_for a (control_at xs j).execution → j < length xs
    within [] j one = absurd (omega (arith, one))
    within (x ∷ xs) zero one = omega arith
    within (x ∷ xs) (suc j) one = omega (arith, within xs j one)

  given-by : (k : CtlNo) (good : Bool) (x : Option Execution) → 1 ≤ due_for a x
      → option_map outputs.Termination (option_map (λ (e : Execution). record { control = k; oper = e.oper; error = if good then None else Some (error_of c k.0 operate e.oper 16) }) x)
      ≡ Some (outputs.Termination (record { control = record { 0 = k.0 }; oper = option_map_or (λ (e : Execution). e.oper) x kinds.Other; error = if good then None else option_map (λ (e : Execution). error_of c k.0 operate e.oper 16) x }))
  given-by k good None one = absurd (omega (arith, one))
  given-by k good (Some e) one = refl

  given : (w : Waiting) → oldest a q ≡ Some w → given_of q.table w ≡ Some (output_of c (arrival n m ∷ before) (waiting_of w))
  given (Reply output) h = refl
  given (Termination k good) h =
      ap (λ x. option_map outputs.Termination (terminations k good x)) (at c k.0 (arrival n m ∷ before) q s (there k good h))
      ∙ given-by k good (execution c k.0 before) (subst (λ x. 1 ≤ due_for a x) (runs c n m k.0 before q s (there k good h)) (runs-still k good h))

  stands-taken : (w : Waiting) → oldest a q ≡ Some w → Stands (after_take a q) c (point_of n m (deed_of_waiting a (waiting_of w)) ∷ before)
  stands-taken (Reply output) h = subst (λ (r : Queued). Stands r c (point_of n m (took a) ∷ before)) (rw h refl)
      (stands-deed c n m (took a) nothing_put before q s (record { number = number; puts = refl; for_one = λ some. absurd (some refl); for_no_other = λ e differ. refl }))
  stands-taken (Termination k good) h = subst (λ (r : Queued). Stands r c (point_of n m (terminated a k.0) ∷ before)) (rw h refl)
      (stands-deed c n m (terminated a k.0) nothing_put before q s (record { number = number; puts = refl; for_one = λ some. absurd (some refl); for_no_other = λ e differ. refl }))

  pub oldest-taken : (w : Waiting) → oldest a q ≡ Some w
      → (next_of a q ≡ Some (output_of c (arrival n m ∷ before) (waiting_of w))) × ((rest : List queue.Waiting) × (waiting c a (arrival n m ∷ before) ≡ waiting_of w ∷ rest))
      × Stands (after_take a q) c (point_of n m (deed_of_waiting a (waiting_of w)) ∷ before)
  oldest-taken w h = (ap (option_and_then (given_of q.table)) h ∙ given w h, (map waiting_of (drop 1 ws), waits w h), stands-taken w h)
