-- why `grouping::groups` answers as its contract says
use Rattle.std.proofs.Common.{◌-◌, length, take, map, ap, sym, ◌∙◌}
use Rattle.name_leaves.specs.Numbers.{number_in}
use Rattle.name_tree.specs.Groups.{group_name}
use Rattle.name_tree.proofs.GroupLaws.{groups-next}
use Rattle.name_tree.proofs.grouping.groups.Goals as goal

pub loop-cut-init : goal.loop-cut-init
loop-cut-init c = record {
  placed = λ name. c.new-places.ensures name ∙ ap (λ gs. number_in (take (length (map group_name gs) - 1) (map group_name gs)) name) (sym c.new-groups.ensures.items);
  groups = c.new-groups.ensures.items;
}

pub loop-cut-preserved : goal.loop-cut-preserved
loop-cut-preserved c = record {
  placed = c.in_ok-put_cut.ensures.placed;
  groups = groups-next c.args.cuts.now c.loop-cut.cut-index c.cut-item.result c.loop-cut.groups.items _ c.loop-cut-test.true c.cut-item.is c.loop-cut.invariant.groups c.in_ok-put_cut.ensures.groups;
}

pub put_cut-requires-clause-groups : goal.put_cut-requires-clause-groups
put_cut-requires-clause-groups c = (take c.loop-cut.cut-index c.args.cuts.now, c.loop-cut.invariant.groups)
