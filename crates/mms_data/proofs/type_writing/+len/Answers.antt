-- why `type_writing::len` answers as its contract says
use Rattle.std.proofs.Common.{ap, arith}
use Rattle.sv_base.specs.declared.types.Parts.TheDeep.{size-TypeOf}
use Rattle.sv_base.proofs.SizeLaws.{most-parts-size-lt}
use Rattle.mms_data.proofs.TypeLaws.{entry_id-count, type_count, one_counted}
use Rattle.mms_data.proofs.type_writing.+len.Goals as goal

pub type_len-parts_len-requires : goal.type_len-parts_len-requires
type_len-parts_len-requires t c = (omega (arith, c.decreases, ap size-TypeOf c.in-Struct.is, most-parts-size-lt c.as_slice.result.now c.in-Struct.parts c.as_slice.ensures.fields), tt)

pub type_len-returns-in-EntryId : goal.type_len-returns-in-EntryId
type_len-returns-in-EntryId t c = rw (c.in-EntryId.is) entry_id-count

pub type_len-returns-in-Struct : goal.type_len-returns-in-Struct
type_len-returns-in-Struct t c = type_count _ _ _ _ _ _ c.in-Struct.is c.as_slice.ensures.fields c.parts_len.ensures c.element_len-in-Struct.ensures c.element_len-in-Struct-2.ensures

pub parts_len-loop-part-preserved : goal.parts_len-loop-part-preserved
parts_len-loop-part-preserved t c =
    omega (arith, one_counted c.args.parts.now c.loop-part.part-index c.part-item.result c.loop-part.sum c.part_len.result c.element_len.result (omega arith) c.part-item.is c.loop-part.invariant c.part_len.ensures c.element_len.ensures)
