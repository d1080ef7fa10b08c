-- The associations by their numbers, 1 to 16.
use Rattle.std.specs.Prelude.{◌≤◌, ℕ, ◌-◌, List, [], ◌++◌, drop, slice_set, slice_index_or, Some}
use Rattle.assoc_table.specs.declared.waiting.Ends.{Ends}
use Rattle.assoc_table.specs.declared.waiting.Waiting.{Waiting}
use Rattle.assoc_table.specs.Seats.{Row, closed}

abbrev pub IsNumber : ℕ → Type 0
IsNumber a = (1 ≤ a) × (a ≤ 16)

abbrev pub row_of : List Row → ℕ → Row
row_of rows a = slice_index_or rows (a - 1) closed

abbrev pub with_row : List Row → ℕ → Row → List Row
with_row rows a row = slice_set rows (a - 1) row

abbrev pub started : List Row → ℕ → Ends → List Row
started rows a ends = with_row rows a (record { ends = Some ends; waiting = [] })

abbrev pub ended : List Row → ℕ → List Row
ended rows a = with_row rows a closed

-- more waits
abbrev pub extended : List Row → ℕ → List Waiting → List Row
extended rows a more = with_row rows a (record { ends = (row_of rows a).ends; waiting = (row_of rows a).waiting ++ more })

-- the oldest was taken
abbrev pub taken : List Row → ℕ → List Row
taken rows a = with_row rows a (record { ends = (row_of rows a).ends; waiting = drop 1 (row_of rows a).waiting })
