-- why `values::copy_values` answers as its contract says
use Rattle.std.proofs.Common.{ap, arith}
use Rattle.sv_base.specs.declared.value.Values.TheDeep.{size-Value}
use Rattle.sv_base.proofs.SizeLaws.{most-size-lt}
use Rattle.config_copies.proofs.values.+copy_values.Goals as goal

pub copy_value-copy_values-requires : goal.copy_value-copy_values-requires
copy_value-copy_values-requires t c = (omega (arith, c.decreases, ap size-Value c.in-Struct.is, most-size-lt c.as_slice.result.now c.in-Struct.values c.as_slice.ensures.row), tt)
