-- why `sizes::Sizes::of_node` answers as its contract says
use Rattle.std.proofs.Common.{ap, sym, ◌∙◌}
use Rattle.octet_rows.specs.Found.{place_in}
use Rattle.cfg_nodes.proofs.IndexLaws.{leaf-found, octets_by}
use Rattle.cfg_nodes.proofs.sizes.Sizes.of_node.Goals as goal

pub returns-in_err-place : goal.returns-in_err-place
returns-in_err-place c =
    let leaves = c.args.self.now.leaves.now in
    let node = c.args.node.now in
    c.from_residual.ensures ∙ sym (leaf-found leaves node ∙ (ap (λ ns. octets_by leaves (place_in ns node)) (sym c.args.self.now.named) ∙ ap (octets_by leaves) (sym c.place_of.ensures ∙ c.in_err-place.was)))

pub returns : goal.returns
returns c =
    let leaves = c.args.self.now.leaves.now in
    let node = c.args.node.now in
    c.octets.ensures ∙ sym (leaf-found leaves node ∙ (ap (λ ns. octets_by leaves (place_in ns node)) (sym c.args.self.now.named) ∙ ap (octets_by leaves) (sym c.place_of.ensures ∙ c.in_ok-place.was)))
