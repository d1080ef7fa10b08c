-- why `nodes::Nodes::octets` answers as its contract says
use Rattle.std.proofs.Common.{◌-◌, [], sym, ap, ◌∙◌}
use Rattle.std.proofs.lemmas.List.{take_all}
use Rattle.cfg_lines.specs.Sizes.{element_octets, octets_of}
use Rattle.cfg_nodes.specs.Indexed.{octets_in, parts_in, capped}
use Rattle.cfg_nodes.proofs.OctetLaws.{capped_large, leaf_found, sum_below, structure_found, structure_large}
use Rattle.cfg_nodes.proofs.nodes.Nodes.+octets.Goals as goal

pub returns-then-depth-eq0 : goal.returns-then-depth-eq0
unfolding octets_of
returns-then-depth-eq0 t c = ap (λ d. capped (octets_of d (octets_in c.args.self.now.sizes) (parts_in c.args.self.now.parts) c.args.node.now)) (sym c.if-depth-eq0.true)

pub returns-in-Some : goal.returns-in-Some
returns-in-Some t c = c.cap.ensures
    ∙ ap capped (sym (leaf_found (octets_in c.args.self.now.sizes) (parts_in c.args.self.now.parts) c.args.node.now c.args.depth c.in-Some.octets c.if-depth-eq0.false (sym c.in-Some.ensures)))

pub returns-in_default-of_node : goal.returns-in_default-of_node
returns-in_default-of_node t c =
    let leaf = octets_in c.args.self.now.sizes in
    let parts = parts_in c.args.self.now.parts in
    c.cap-in_default-of_node.ensures
    ∙ ap capped (c.element_octets.ensures ∙ sym (structure_found leaf parts c.args.node.now c.args.depth [] c.if-depth-eq0.false (sym c.in_default.ensures) c.in_default-of_node.ensures))

pub returns-then-sum-gt500 : goal.returns-then-sum-gt500
returns-then-sum-gt500 t c =
    let leaf = octets_in c.args.self.now.sizes in
    let parts = parts_in c.args.self.now.parts in
    sym (capped_large (octets_of c.args.depth leaf parts c.args.node.now) (structure_large leaf parts c.args.node.now c.args.depth c.loop-part.sum c.octets-sum.result c.loop-part.part-index
    c.names-part-items.result.now _ c.if-depth-eq0.false (sym c.in_default.ensures) (c.names-part-items.ensures ∙ c.in-Some-of_node.ensures) c.loop-part-test.true c.loop-part.invariant.is_sum
    c.octets-sum.ensures c.if-sum-gt500.true))

pub returns : goal.returns
returns t c =
    let leaf = octets_in c.args.self.now.sizes in
    let parts = parts_in c.args.self.now.parts in
    let items = c.names-part-items.result.now in
    c.cap-2.ensures ∙ ap capped (c.element_octets-2.ensures
    ∙ (ap element_octets (c.loop-part.invariant.is_sum ∙ ap (sum_below leaf parts c.args.node.now (c.args.depth - 1)) (take_all c.loop-part.part-index items c.loop-part-test.false))
    ∙ sym (structure_found leaf parts c.args.node.now c.args.depth items c.if-depth-eq0.false (sym c.in_default.ensures) (c.names-part-items.ensures ∙ c.in-Some-of_node.ensures))))
