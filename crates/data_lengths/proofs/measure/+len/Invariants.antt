-- what the loops of `measure::len` keep
use Rattle.std.proofs.Common.{◌≡◌, length, take, min}
use Rattle.sv_base.specs.Data.{data_row}
use Rattle.sv_base.specs.Seen.{row_of}
use Rattle.data_lengths.proofs.measure.+len.Given as goal

abbrev pub invariant-row_len-loop-value : goal.invariant-row_len-loop-value
invariant-row_len-loop-value l = l.sum ≡ min (length (data_row (row_of (take l.value-index l.values)))) 4294967295
