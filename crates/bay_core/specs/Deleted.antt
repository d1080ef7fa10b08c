-- Data sets that clients define and delete, and what the blocks have then (ISO 9506-2, DefineNamedVariableList and
-- DeleteNamedVariableList; IEC 61850-7-2, CreateDataSet and DeleteDataSet).
use Rattle.std.specs.Prelude.{◌≡◌, ◌≢◌, ◌<◌, ◌+◌, ◌-◌, ℕ, Bool, List, [], ◌∷◌, length, map, None, Result, Ok, Err, if◌then◌else◌}
use Rattle.std.specs.List.{list_any}
use Rattle.std.specs.Str.{bytes_eq}
use Rattle.sv_base.specs.declared.config.Config.{Config}
use Rattle.bay_model.specs.declared.request.SetName.{SetName}
use Rattle.bay_model.specs.Lookups.{reference_of}
use Rattle.data_sets.specs.declared.book.DeleteFault.{DeleteFault}
use Rattle.data_sets.specs.declared.book.DeleteFault.TheVariants as faults
use Rattle.data_sets.specs.Books.{Booked, Book, after_delete, deletion, number_named}
use Rattle.data_sets.specs.Standing.{data_set}
use Rattle.data_sets.specs.Turns.{is_going, is_there}
use Rattle.bay_config.specs.Servable.{IsServedSet}
use Rattle.report_block.specs.declared.block.ReportBlock.{ReportBlock}
use Rattle.report_block.specs.Writes.{renumbered}
use Rattle.bay_values.specs.Marked.{one_if}
use Rattle.bay_core.specs.State.{State}

-- a set that may come into the book: it can be served, and has a name that is nobody's
pub record IsNewSet (c : Config) (book : Book) (s : Booked) : Type 0 where
  pub few : length book.sets - book.configured < 64
  pub served : IsServedSet c (data_set s)
  pub name : number_named s.name book ≡ None
  pub named : s.name.item ≢ []
  pub free : s.holds ≡ 0

-- the DatSet of a block, enabled or not, is the reference of this name
abbrev pub is_reported : List ReportBlock → SetName → Bool
is_reported parts n = list_any (λ (p : ReportBlock). bytes_eq p.block.options.dat_set (reference_of n.domain n.item)) parts

abbrev pub unless_used : Bool → Result ℕ DeleteFault → Result ℕ DeleteFault
unless_used used (Ok k) = if used then Err faults.InUse else Ok k
unless_used used (Err fault) = Err fault

-- the number of the data set that goes by a name, or why none does
abbrev pub deletion_at : State → SetName → Result ℕ DeleteFault
deletion_at s n = unless_used (is_reported s.parts n) (deletion s.book n)

-- after the deletion of one, and of several, each judged after those before it
abbrev pub after_deletion : Result ℕ DeleteFault → State → State
after_deletion (Ok k) s = record s { book = after_delete k s.book; parts = map (renumbered k) s.parts }
after_deletion (Err fault) s = s

abbrev pub after_deletions : List SetName → State → State
after_deletions [] s = s
after_deletions (n ∷ ns) s = after_deletions ns (after_deletion (deletion_at s n) s)

-- how many of the names have a set at their turn, and how many of these go
abbrev pub matched_in : List SetName → State → ℕ
matched_in [] s = 0
matched_in (n ∷ ns) s = one_if (is_there (deletion_at s n)) + matched_in ns (after_deletion (deletion_at s n) s)

abbrev pub deleted_in : List SetName → State → ℕ
deleted_in [] s = 0
deleted_in (n ∷ ns) s = one_if (is_going (deletion_at s n)) + deleted_in ns (after_deletion (deletion_at s n) s)
