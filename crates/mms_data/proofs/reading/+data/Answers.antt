-- why `reading::data` answers as its contract says
use Rattle.std.proofs.Common.{arith}
use Rattle.std.proofs.Math.Nat.{pos_of_ne-zero}
use Rattle.std.proofs.lemmas.Bool.{ne_eqb}
use Rattle.std.proofs.lemmas.Result.{err_from_is_err_and}
use Rattle.ber_grammar.proofs.RowLaws.{Goes-broken, Goes-all}
use Rattle.ber_view.specs.View.{element}
use Rattle.mms_data.specs.Reading.{malformed, data_at}
use Rattle.mms_data.proofs.DataLaws.{data_at-outside, data_at-deep, data_at-struct, data_at-plain, struct_at-ok, one_more, part_fails}
use Rattle.mms_data.proofs.reading.+data.Goals as goal

pub value_of-returns-then-not-has_context : goal.value_of-returns-then-not-has_context
value_of-returns-then-not-has_context t c = data_at-outside _ _ (cc)

pub value_of-returns-then-depth-eq0 : goal.value_of-returns-then-depth-eq0
value_of-returns-then-depth-eq0 t c = data_at-deep _ _ (omega arith) (cc)

pub value_of-returns-then-part-eq-STRUCTURE : goal.value_of-returns-then-part-eq-STRUCTURE
value_of-returns-then-part-eq-STRUCTURE t c = rw (data_at-struct c.args.depth (element c.args.part.now) (pos_of_ne-zero c.if-depth-eq0.false) (cc) c.if-part-eq-STRUCTURE.true) c.struct_of.ensures

pub value_of-returns : goal.value_of-returns
value_of-returns t c = rw (data_at-plain c.args.depth (element c.args.part.now) (pos_of_ne-zero c.if-depth-eq0.false) (cc) (ne_eqb _ _ c.if-part-eq-STRUCTURE.false)) c.plain_of.ensures

pub struct_of-returns : goal.struct_of-returns
struct_of-returns t c = struct_at-ok _ _ c.in_ok-items.items.items _ c.in_ok-items.ensures c.from_vec.ensures

pub parts_of-loop-rest-preserved : goal.parts_of-loop-rest-preserved
parts_of-loop-rest-preserved t c = one_more (data_at c.args.depth) _ _ _ _ _ _ _ c.loop-rest.invariant c.in-Ok.ensures.exact c.in_ok-value.ensures c.in_ok-push.ensures.items

pub parts_of-returns : goal.parts_of-returns
parts_of-returns t c = Goes-all (data_at c.args.depth) malformed _ _ _ c.loop-rest.invariant (cc)

pub parts_of-returns-in-Err : goal.parts_of-returns-in-Err
parts_of-returns-in-Err t c = Goes-broken (data_at c.args.depth) malformed _ _ _ _ c.loop-rest.invariant c.in-Err.ensures.exact (cc)

pub parts_of-returns-in_err-value : goal.parts_of-returns-in_err-value
parts_of-returns-in_err-value t c =
    let p = err_from_is_err_and c.from_residual.result c.from_residual.ensures.1 in
    rw (p.1, p.2) (part_fails (data_at c.args.depth) _ _ _ _ _ _ c.loop-rest.invariant c.in-Ok.ensures.exact c.in_err-value.ensures)
