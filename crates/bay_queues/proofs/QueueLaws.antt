-- What waits for an association, by the rows and the controls of a bay.
use Rattle.std.proofs.Common.{◌≡◌, ◌≤◌, ℕ, suc, Bool, List, [], ◌∷◌, map, None, Some, refl, ap, sym, ◌∙◌, arith}
use Rattle.std.specs.Prelude.{Option, slice_get, if◌then◌else◌}
use Rattle.std.specs.Option.{option_and_then, option_map}
use Rattle.sv_base.specs.declared.numbers.CtlNo.{CtlNo}
use Rattle.bay_model.specs.declared.answer.Output.TheVariants as outputs
use Rattle.bay_model.specs.Controls.{Execution}
use Rattle.bay_model.specs.Model.{Model, operate}
use Rattle.bay_model.specs.Points.{Past}
use Rattle.bay_model.specs.Waiting as queue
use Rattle.assoc_table.specs.declared.waiting.Waiting.{Waiting}
use Rattle.assoc_table.specs.declared.waiting.Waiting.TheVariants.{Reply, Termination}
use Rattle.assoc_table.specs.Seats.{Row, replies}
use Rattle.assoc_table.specs.Tables.{IsNumber, row_of}
use Rattle.assoc_table.specs.Standing.{Stands as AssociationsStand, waiting_of}
use Rattle.control_core.specs.Controls.{ControlState, error_at, terminations}
use Rattle.control_core.specs.Tables.{Table, at_moment, control_at}
use Rattle.control_core.specs.TerminationsWait.{due_for}
use Rattle.bay_queues.specs.Queued.{Queued, IsQueued}
use Rattle.bay_queues.specs.Taken.{after_take, given_of, next_of, rows_left, table_left}
use Rattle.bay_queues.proofs.RowLaws.{ends-oldest}

-- ---- where nothing is taken nothing waits

-- a control whose termination is due has one
has-ended : (k : CtlNo) (good : Bool) (s : ControlState) (a : ℕ) → 1 ≤ due_for a s.execution → None ≡ option_map outputs.Termination (terminations k good s) → ⊥
has-ended k good s a one none = by s.execution one none where
  by : (x : Option Execution) → 1 ≤ due_for a x
      → None ≡ option_map outputs.Termination (option_map (λ (e : Execution). record { control = k; oper = e.oper; error = if good then None else Some (error_at s.config.reference operate e.oper 16) }) x) → ⊥
  by None one none = omega (arith, one)
  by (Some e) one none = cc

pub none-waits : (q : Queued) (a : ℕ) → IsNumber a → IsQueued q.rows q.table → None ≡ next_of a q → (row_of q.rows a).waiting ≡ []
none-waits q a number is none = by (row_of q.rows a).waiting refl none where
  by : (ws : List Waiting) → (row_of q.rows a).waiting ≡ ws → None ≡ option_and_then (given_of q.table) (slice_get ws 0) → ws ≡ []
  by [] same none = refl
  by (Reply output ∷ ws) same none = cc
  by (Termination k good ∷ ws) same none =
      let first : slice_get (row_of q.rows a).waiting 0 ≡ Some (Termination k good) = ap (λ (l : List Waiting). slice_get l 0) same in
      absurd (has-ended k good (control_at q.table.controls k.0) a (omega (arith, is.due a k.0 number, ends-oldest k good (row_of q.rows a).waiting first)) none)

-- and all is left as it was
pub left-none : (q new : Queued) (a : ℕ) → (row_of q.rows a).waiting ≡ [] → new ≡ after_take a q → new ≡ q
left-none q new a empty left =
    let by : Option Waiting → Queued = λ o. record { rows = rows_left o a q.rows; table = table_left o q.table } in
    left ∙ ap by (ap (λ (l : List Waiting). slice_get l 0) empty)

-- ---- what is taken doesn't depend on the moment

pub given-then : (m : ℕ) (t : Table) (w : Waiting) → given_of (at_moment m t) w ≡ given_of t w
given-then m t (Reply output) = refl
given-then m t (Termination k good) = refl

pub left-then : (w : Option Waiting) (m : ℕ) (t : Table) → at_moment m (table_left w t) ≡ table_left w (at_moment m t)
left-then None m t = refl
left-then (Some (Reply output)) m t = refl
left-then (Some (Termination k good)) m t = refl

-- ---- what the definitions have

pub nothing-waits : (m : Model) (rows : List Row) (past : Past) (a : ℕ) → AssociationsStand rows m past → IsNumber a → (row_of rows a).waiting ≡ [] → queue.waiting m a past ≡ []
nothing-waits m rows past a st number empty = sym (st.each a number).waiting ∙ ap (map waiting_of) empty

-- how many replies wait
replies-of : (ws : List Waiting) → queue.replies_in (map waiting_of ws) ≡ replies ws
replies-of [] = refl
replies-of (Reply output ∷ ws) = ap suc (replies-of ws)
replies-of (Termination k good ∷ ws) = replies-of ws

pub replies-told : (m : Model) (rows : List Row) (past : Past) (a : ℕ) → AssociationsStand rows m past → IsNumber a → queue.waiting_replies m a past ≡ replies (row_of rows a).waiting
replies-told m rows past a st number = ap queue.replies_in (sym (st.each a number).waiting) ∙ replies-of (row_of rows a).waiting
