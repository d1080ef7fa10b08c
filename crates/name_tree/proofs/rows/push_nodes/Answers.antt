-- why `rows::push_nodes` answers as its contract says
use Rattle.std.proofs.Common.{ap, ◌∙◌, ◌++◌, ◌∷◌, [], ◌+◌}
use Rattle.name_tree.specs.Attrs.{row_with}
use Rattle.name_tree.proofs.AttrLaws.{rows-next}
use Rattle.name_tree.proofs.NodeLaws.{names-next}
use Rattle.name_tree.proofs.rows.push_nodes.Goals as goal

pub loop-spot-preserved : goal.loop-spot-preserved
loop-spot-preserved c = record {
  rows = rows-next c.loop-spot.rows.items c.push.new.self.items _ c.args.items.now c.args.attrs.now c.in_ok-part.part c.loop-spot.place c.in_ok-place.place c.loop-spot.first c.in_ok-next.next c.in-Some.spot c.next.new.self.rest.items c.loop-spot.spot-iterator.rest.items c.name_at.result.now
      c.in-Some.ensures.steps.0 (c.in_ok-push.ensures.items ∙ (ap (λ r. c.loop-spot.rows.items ++ r ∷ []) c.row_of.ensures ∙ ap (λ n. c.loop-spot.rows.items ++ row_with n c.name_at.result.now c.in-Some.spot c.in_ok-part.part ∷ []) (c.in_ok-number.ensures ∙ (c.len.ensures ∙ c.loop-spot.rows.ok.0))))
      c.name_at.ensures c.in_ok-part.ensures c.in_ok-place.ensures (c.in_ok-next.ensures ∙ ap (λ n. c.loop-spot.first + n) c.own_count.ensures) c.loop-spot.invariant.rows;
  names = names-next c.loop-spot.names.items c.push-in-loop-spot.new.self.items _ c.args.domain c.loop-spot.place c.in_ok-place.place c.in-Some.spot c.next.new.self.rest.items c.loop-spot.spot-iterator.rest.items c.in-Some.ensures.steps.0 c.in_ok-push-2.ensures.items c.in_ok-place.ensures c.loop-spot.invariant.names;
}
