-- why `sendable::writable` answers as its contract says
use Rattle.std.proofs.Common.{◌-◌, ap, arith, sym, ◌∙◌}
use Rattle.sv_base.specs.declared.value.Values.TheDeep.{size-Value}
use Rattle.sv_base.proofs.SizeLaws.{most-size-lt}
use Rattle.output_pdus.specs.Sendable.{are_writable}
use Rattle.output_pdus.proofs.SendableLaws.{structure-writable}
use Rattle.output_pdus.proofs.sendable.+writable.Goals as goal

pub is_writable-are_writable-requires : goal.is_writable-are_writable-requires
is_writable-are_writable-requires t c = (omega (arith, c.decreases, ap size-Value c.in-Struct.is, most-size-lt c.as_slice.result.now c.in-Struct.values c.as_slice.ensures.row), tt)

pub is_writable-returns-in-Struct : goal.is_writable-returns-in-Struct
is_writable-returns-in-Struct t c =
    c.are_writable.ensures ∙ (ap (are_writable (c.args.depth - 1)) c.as_slice.ensures.row ∙ sym (structure-writable c.args.depth c.in-Struct.values c.args.value.now c.if-depth-eq0.false c.in-Struct.is))
