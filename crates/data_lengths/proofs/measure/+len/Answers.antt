-- why `measure::len` answers as its contract says
use Rattle.std.proofs.Common.{arith, ap}
use Rattle.sv_base.specs.declared.value.Values.TheDeep.{size-Value}
use Rattle.sv_base.proofs.LengthLaws.{length-data_row-more}
use Rattle.sv_base.proofs.SizeLaws.{most-size-lt}
use Rattle.data_lengths.proofs.measure.+len.Goals as goal

pub data_len-row_len-requires : goal.data_len-row_len-requires
data_len-row_len-requires t c = (omega (arith, c.decreases, ap size-Value c.in-Struct.is, most-size-lt c.as_slice.result.now c.in-Struct.values c.as_slice.ensures.row), tt)

pub row_len-loop-value-preserved : goal.row_len-loop-value-preserved
row_len-loop-value-preserved t c =
    omega (arith, length-data_row-more c.args.values.now c.loop-value.value-index c.value-item.result (omega arith) c.value-item.is)
