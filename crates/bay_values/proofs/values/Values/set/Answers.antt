-- why `values::Values::set` answers as its contract says
use Rattle.std.proofs.Common.{arith, ap, length}
use Rattle.bay_values.proofs.MarkLaws.{within_all}
use Rattle.bay_values.proofs.values.Values.set.Goals as goal

pub unmark-requires-clause-within : goal.unmark-requires-clause-within
unmark-requires-clause-within c = λ k d below.
    rw c.as_slice.ensures.value
    (omega (
      arith,
      within_all c.args.model.now c.self.inside.store c.set_all.new.store c.args.settings.now c.set_all.new.marks c.set_all.new.changes.items c.set_all.ensures.done k d (omega (arith, below, ap length c.as_slice.ensures.value)),
      c.set_all.auto.marks,
      c.as_mut_slice.ensures.len,
      c.as_mut_slice-2.ensures.len,
    ))

pub returns-clause-within : goal.returns-clause-within
returns-clause-within c = λ k d below.
    omega (
      arith,
      within_all c.args.model.now c.self.inside.store c.set_all.new.store c.args.settings.now c.set_all.new.marks c.set_all.new.changes.items c.set_all.ensures.done k d below,
      c.set_all.auto.marks,
      c.as_mut_slice.ensures.len,
      c.self.invariant.0,
      ap length c.self.view_is,
    )
