-- why `data_view::check` answers as its contract says
use Rattle.std.proofs.Common.{sym, ap, ◌∙◌, arith}
use Rattle.std.proofs.Math.Nat.{pos_of_ne-zero}
use Rattle.std.proofs.lemmas.Bool.{ne_eqb}
use Rattle.ber_view.specs.View.{element}
use Rattle.mms_data.specs.Reading.{data_at}
use Rattle.mms_data.specs.View.{checked}
use Rattle.mms_data.proofs.DataLaws.{data_at-outside, data_at-deep, data_at-struct, data_at-plain}
use Rattle.mms_data.proofs.ViewLaws.{checked_more, checked_fails, checked_broken, checked_all, checked_struct}
use Rattle.mms_data.proofs.data_view.+check.Goals as goal

pub check_value-returns-then-not-has_context : goal.check_value-returns-then-not-has_context
check_value-returns-then-not-has_context t c = ap checked (sym (data_at-outside c.args.depth (element c.args.part.now) (cc)))

pub check_value-returns-then-depth-eq0 : goal.check_value-returns-then-depth-eq0
check_value-returns-then-depth-eq0 t c = ap checked (sym (data_at-deep c.args.depth (element c.args.part.now) (omega arith) (cc)))

pub check_value-returns-then-part-eq-STRUCTURE : goal.check_value-returns-then-part-eq-STRUCTURE
check_value-returns-then-part-eq-STRUCTURE t c =
    c.check_parts.ensures ∙ sym (checked_struct (data_at _) _) ∙ ap checked (sym (data_at-struct c.args.depth (element c.args.part.now) (pos_of_ne-zero c.if-depth-eq0.false) (cc) c.if-part-eq-STRUCTURE.true))

pub check_value-returns : goal.check_value-returns
check_value-returns t c = c.check_plain.ensures ∙ ap checked (sym (data_at-plain c.args.depth (element c.args.part.now) (pos_of_ne-zero c.if-depth-eq0.false) (cc) (ne_eqb _ _ c.if-part-eq-STRUCTURE.false)))

pub check_parts-loop-rest-preserved : goal.check_parts-loop-rest-preserved
check_parts-loop-rest-preserved t c = checked_more (data_at c.args.depth) _ _ _ _ c.loop-rest.invariant c.in-Ok.ensures.exact c.in_default.ensures

pub check_parts-returns : goal.check_parts-returns
check_parts-returns t c = checked_all (data_at c.args.depth) _ _ c.loop-rest.invariant (cc)

pub check_parts-returns-in-Err : goal.check_parts-returns-in-Err
check_parts-returns-in-Err t c = checked_broken (data_at c.args.depth) _ _ _ c.loop-rest.invariant c.in-Err.ensures.exact (cc)

pub check_parts-returns-in-Err-check_value : goal.check_parts-returns-in-Err-check_value
check_parts-returns-in-Err-check_value t c = checked_fails (data_at c.args.depth) _ _ _ _ _ c.loop-rest.invariant c.in-Ok.ensures.exact c.in-Err-check_value.ensures
