-- why `index::first_at` answers as its contract says
use Rattle.std.proofs.Common.{sym, ◌∙◌}
use Rattle.octet_rows.proofs.FoundLaws.{first-found, first-next}
use Rattle.octet_rows.proofs.index.first_at.Goals as goal

pub returns-then-is_at : goal.returns-then-is_at
returns-then-is_at c = sym (first-found c.args.rows.now c.args.row.now c.args.places.now c.loop-place.place-index 0 c.loop-place-test.true c.loop-place.invariant (sym c.is_at.ensures ∙ c.if-is_at.true))

pub loop-place-preserved : goal.loop-place-preserved
loop-place-preserved c = first-next c.args.rows.now c.args.row.now c.args.places.now c.loop-place.place-index 0 c.loop-place-test.true c.loop-place.invariant (sym c.is_at.ensures ∙ c.if-is_at.false)
