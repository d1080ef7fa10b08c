-- why `values::unmark` answers as its contract says
use Rattle.std.proofs.Common.{subst}
use Rattle.std.proofs.lemmas.List.{drop_all}
use Rattle.bay_values.specs.Marked.{AreNoted}
use Rattle.bay_values.proofs.MarkLaws.{blank_at_end}
use Rattle.bay_values.proofs.values.unmark.Goals as goal

pub returns : goal.returns
returns c = blank_at_end c.loop-change.marks (subst (λ l. AreNoted l c.loop-change.marks) (drop_all c.loop-change.change-index c.args.changes.now c.loop-change-test.false) c.loop-change.invariant)
