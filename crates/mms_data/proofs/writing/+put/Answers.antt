-- why `writing::put` answers as its contract says
use Rattle.std.proofs.Common.{◌≡◌, length, take, ap, arith}
use Rattle.std.proofs.lemmas.Result.{on_err_weaker, err_from_is_err_and}
use Rattle.sv_base.specs.declared.value.Values.TheDeep.{size-Value}
use Rattle.sv_base.proofs.SizeLaws.{most-size-lt}
use Rattle.mms_data.proofs.WritingLaws.{data_row-more, keeps_after, HasNoOther-at, Fits-at, grown, size-at, no_other_inside, fits_inside}
use Rattle.mms_data.proofs.writing.+put.Goals as goal

pub put_row-put_value-requires : goal.put_row-put_value-requires
put_row-put_value-requires t c = (
  omega (arith, c.decreases, size-at c.args.values.now c.loop-value.value-index _ (omega arith) c.value-item.is),
  (HasNoOther-at c.args.values.now c.loop-value.value-index _ (omega arith) c.value-item.is c.requires.no_other, Fits-at c.args.values.now c.loop-value.value-index _ (omega arith) c.value-item.is c.requires.fits),
)

pub put_row-returns-in_err-put_value-clause-err : goal.put_row-returns-in_err-put_value-clause-err
put_row-returns-in_err-put_value-clause-err t c =
    let p = err_from_is_err_and c.from_residual.result c.from_residual.ensures.1 in
    rw (p.1) (keeps_after _ _ _ _ c.loop-value.invariant c.in_err-put_value.ensures.err)

pub put_row-loop-value-preserved : goal.put_row-loop-value-preserved
put_row-loop-value-preserved t c =
    grown _ _ _ _ _ _ c.loop-value.invariant c.in_ok-put_value.ensures.ok (data_row-more c.args.values.now c.loop-value.value-index c.value-item.result (omega arith) c.value-item.is)

pub put_value-put_row-requires : goal.put_value-put_row-requires
put_value-put_row-requires t c = (
  omega (arith, c.decreases, ap size-Value c.in-Struct.is, most-size-lt c.as_slice-values.result.now c.in-Struct.values c.as_slice-values.ensures.row),
  (no_other_inside _ _ c.as_slice-values.result.now c.in-Struct.is c.as_slice-values.ensures.row c.requires.no_other, fits_inside _ _ c.as_slice-values.result.now c.in-Struct.is c.as_slice-values.ensures.row c.requires.fits),
)

pub put_value-returns-in_ok-put_head-in-Struct-clause-err : goal.put_value-returns-in_ok-put_head-in-Struct-clause-err
put_value-returns-in_ok-put_head-in-Struct-clause-err t c =
    on_err_weaker c.put_row.result (λ (h : take (length c.put_head.new.out.items) c.put_row.new.out.items ≡ c.put_head.new.out.items). keeps_after _ _ _ _ c.in_ok-put_head-in-Struct.ensures.ok h) c.put_row.ensures.err
