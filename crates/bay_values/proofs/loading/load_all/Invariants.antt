-- what the loops of `loading::load_all` keep
use Rattle.std.proofs.Common.{◌≤◌, drop, vec_capacity}
use Rattle.setting_groups.specs.Grouped.{active_place, domain_at}
use Rattle.setting_groups.specs.Loaded.{loadings}
use Rattle.bay_values.specs.Loaded.{AreLoadable}
use Rattle.bay_values.specs.Marked.{IsDone}
use Rattle.bay_values.proofs.loading.load_all.Given as goal

abbrev pub invariant-loop-i : goal.invariant-loop-i
invariant-loop-i l = record {
  done : IsDone l.model l.initial.store (loadings l.domain (active_place (domain_at l.groups l.domain)) (drop l.i l.groups.settings)) l.store l.marks l.changes.items;
  fit : AreLoadable l.store l.groups;
  room : vec_capacity l.initial.changes ≤ vec_capacity l.changes;
}
