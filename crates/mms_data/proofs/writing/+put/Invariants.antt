-- what the loops of `writing::put` keep
use Rattle.std.proofs.Common.{◌≡◌, ◌++◌, take}
use Rattle.sv_base.specs.Seen.{row_of}
use Rattle.sv_base.specs.Data.{data_row}
use Rattle.mms_data.proofs.writing.+put.Given as goal

abbrev pub invariant-put_row-loop-value : goal.invariant-put_row-loop-value
invariant-put_row-loop-value l = l.out.items ≡ l.fn.out.items ++ data_row (row_of (take l.value-index l.values))
