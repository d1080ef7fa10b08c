-- why `largest::largest` answers as its contract says
use Rattle.std.proofs.Common.{ap, arith}
use Rattle.sv_base.specs.declared.types.Parts.TheDeep.{size-TypeOf}
use Rattle.sv_base.proofs.SizeLaws.{most-parts-size-lt}
use Rattle.name_tree.proofs.LargestLaws.{largest-more}
use Rattle.name_tree.proofs.largest.+largest.Goals as goal

pub largest-largest_parts-requires : goal.largest-largest_parts-requires
largest-largest_parts-requires t c = (omega (arith, c.decreases, ap size-TypeOf c.in-Struct.is, most-parts-size-lt c.as_slice.result.now c.in-Struct.parts c.as_slice.ensures.fields), tt)

pub largest_parts-loop-part-preserved : goal.largest_parts-loop-part-preserved
largest_parts-loop-part-preserved t c = omega (arith, largest-more c.args.parts.now c.loop-part.part-index c.part-item.result (omega arith) c.part-item.is)
