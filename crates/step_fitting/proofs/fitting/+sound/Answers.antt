-- why `fitting::sound` answers as its contract says
use Rattle.std.proofs.Common.{ap, arith}
use Rattle.sv_base.specs.declared.value.Values.TheDeep.{size-Value}
use Rattle.sv_base.proofs.SizeLaws.{most-size-lt}
use Rattle.step_fitting.proofs.fitting.+sound.Goals as goal

pub is_sound-are_sound-requires : goal.is_sound-are_sound-requires
is_sound-are_sound-requires t c = (omega (arith, c.decreases, ap size-Value c.in-Struct.is, most-size-lt c.as_slice-in-Struct.result.now c.in-Struct.values c.as_slice-in-Struct.ensures.row), tt)
