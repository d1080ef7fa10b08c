-- What is put for associations, and what is taken (IEC 61850-7-2, CommandTermination; ISO 9506-2, the response to a confirmed
-- service).
use Rattle.std.specs.Prelude.{ℕ, Bool, true, List, [], ◌∷◌, map, Option, None, Some, slice_get}
use Rattle.std.specs.Option.{option_and_then, option_map}
use Rattle.sv_base.specs.declared.numbers.CtlNo.{CtlNo}
use Rattle.bay_model.specs.declared.answer.Output.{Output}
use Rattle.bay_model.specs.declared.answer.Output.TheVariants as outputs
use Rattle.bay_model.specs.Points.{finished, lost}
use Rattle.assoc_table.specs.declared.waiting.Waiting.{Waiting}
use Rattle.assoc_table.specs.declared.waiting.Waiting.TheVariants.{Reply, Termination}
use Rattle.assoc_table.specs.Seats.{Row}
use Rattle.assoc_table.specs.Tables.{row_of, ended, extended, taken}
use Rattle.control_core.specs.Controls.{due, stopped, terminations}
use Rattle.control_core.specs.Tables.{Table, control_at, changed, after_deed}
use Rattle.bay_queues.specs.Queued.{Queued}

-- ---- put

-- the termination of a control, for the association for which it is due
abbrev pub put_rows : Option ℕ → CtlNo → Bool → List Row → List Row
put_rows None k good rows = rows
put_rows (Some a) k good rows = extended rows a (Termination k good ∷ [])

abbrev pub after_done : CtlNo → Bool → Queued → Queued
after_done k good q = record {
  rows = put_rows (due (control_at q.table.controls k.0).execution) k good q.rows;
  table = after_deed (finished k.0 good) q.table;
}

-- a reply, and the positive terminations of tests after it
abbrev pub reply_and : Output → List CtlNo → List Waiting
reply_and output tests = Reply output ∷ map (λ k. Termination k true) tests

abbrev pub after_reply : ℕ → Output → List CtlNo → Queued → Queued
after_reply a output tests q = record q { rows = extended q.rows a (reply_and output tests) }

-- an association was lost
abbrev pub after_end : ℕ → Queued → Queued
after_end a q = record { rows = ended q.rows a; table = after_deed (lost a) q.table }

-- ---- taken

-- what is given of one that waits
abbrev pub given_of : Table → Waiting → Option Output
given_of t (Reply output) = Some output
given_of t (Termination k good) = option_map outputs.Termination (terminations k good (control_at t.controls k.0))

abbrev pub oldest : ℕ → Queued → Option Waiting
oldest a q = slice_get (row_of q.rows a).waiting 0

abbrev pub next_of : ℕ → Queued → Option Output
next_of a q = option_and_then (given_of q.table) (oldest a q)

-- a command whose termination was taken runs no longer
abbrev pub table_left : Option Waiting → Table → Table
table_left (Some (Termination k good)) t = changed t k.0 (stopped (control_at t.controls k.0))
table_left _ t = t

abbrev pub rows_left : Option Waiting → ℕ → List Row → List Row
rows_left None a rows = rows
rows_left (Some w) a rows = taken rows a

abbrev pub after_take : ℕ → Queued → Queued
after_take a q = record { rows = rows_left (oldest a q) a q.rows; table = table_left (oldest a q) q.table }

-- what waits longest is a reply, or nothing waits
abbrev pub IsNoTermination : Option Waiting → Type 0
IsNoTermination (Some (Termination k good)) = ⊥
IsNoTermination _ = Unit {0}
