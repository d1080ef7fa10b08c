-- why `type_writing::put` answers as its contract says
use Rattle.std.proofs.Common.{◌≡◌, length, take, ap, arith}
use Rattle.std.proofs.lemmas.Result.{on_err_weaker, err_from_is_err_and}
use Rattle.sv_base.specs.declared.types.Parts.TheDeep.{size-TypeOf}
use Rattle.sv_base.proofs.SizeLaws.{most-parts-size-lt}
use Rattle.mms_data.proofs.TypeLaws.{parts_octets-more, FitsPart-at, size-part-at, fits_within}
use Rattle.mms_data.proofs.WritingLaws.{keeps_after, grown}
use Rattle.mms_data.proofs.type_writing.+put.Goals as goal

pub put_part-returns-clause-err : goal.put_part-returns-clause-err
put_part-returns-clause-err t c =
    on_err_weaker c.put_type.result
    (λ (h : take (length c.put_head-2.new.out.items) c.put_type.new.out.items ≡ c.put_head-2.new.out.items).
    keeps_after _ _ _ _ c.in_ok-put_head.ensures.ok (keeps_after _ _ _ _ c.in_ok-put.ensures.ok (keeps_after _ _ _ _ c.in_ok-put_head-2.ensures.ok h)))
    c.put_type.ensures.err

pub put_type-put_parts-requires : goal.put_type-put_parts-requires
put_type-put_parts-requires t c = (
  omega (arith, c.decreases, ap size-TypeOf c.in-Struct.is, most-parts-size-lt c.as_slice-parts.result.now c.in-Struct.parts c.as_slice-parts.ensures.fields),
  fits_within _ _ c.as_slice-parts.result.now c.in-Struct.is c.as_slice-parts.ensures.fields c.requires,
)

pub put_type-returns-in_ok-put_head-in-Struct-2-clause-err : goal.put_type-returns-in_ok-put_head-in-Struct-2-clause-err
put_type-returns-in_ok-put_head-in-Struct-2-clause-err t c =
    on_err_weaker c.put_parts.result
    (λ (h : take (length c.put_head-in-Struct.new.out.items) c.put_parts.new.out.items ≡ c.put_head-in-Struct.new.out.items).
    keeps_after _ _ _ _ c.in_ok-put_head-in-Struct.ensures.ok (keeps_after _ _ _ _ c.in_ok-put_head-in-Struct-2.ensures.ok h))
    c.put_parts.ensures.err

pub put_parts-put_part-requires : goal.put_parts-put_part-requires
put_parts-put_part-requires t c = (
  omega (arith, c.decreases, size-part-at c.args.parts.now c.loop-part.part-index _ (omega arith) c.part-item.is),
  FitsPart-at c.args.parts.now c.loop-part.part-index _ (omega arith) c.part-item.is c.requires,
)

pub put_parts-returns-in_err-put_part-clause-err : goal.put_parts-returns-in_err-put_part-clause-err
put_parts-returns-in_err-put_part-clause-err t c =
    let p = err_from_is_err_and c.from_residual.result c.from_residual.ensures.1 in
    rw (p.1) (keeps_after _ _ _ _ c.loop-part.invariant c.in_err-put_part.ensures.err)

pub put_parts-loop-part-preserved : goal.put_parts-loop-part-preserved
put_parts-loop-part-preserved t c =
    grown _ _ _ _ _ _ c.loop-part.invariant c.in_ok-put_part.ensures.ok (parts_octets-more c.args.parts.now c.loop-part.part-index c.part-item.result (omega arith) c.part-item.is)
