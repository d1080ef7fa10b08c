-- why `nodes::Nodes::of` answers as its contract says
use Rattle.std.proofs.Common.{◌≡◌, ◌&&◌, ◌||◌, true, not, is_some, nat_lt, map, reverse, ap, ap₂, ◌∙◌}
use Rattle.std.proofs.lemmas.Bool.{or_left}
use Rattle.cfg_lines.specs.Nodes.{leaves, reaches, leaf_names}
use Rattle.cfg_lines.specs.Sizes.{leaf_octets, children}
use Rattle.cfg_nodes.specs.Asked.{asked, is_wanted}
use Rattle.cfg_nodes.specs.Indexed.{octets_in, parts_in}
use Rattle.cfg_nodes.proofs.OctetLaws.{octets_same}
use Rattle.cfg_nodes.proofs.PresenceLaws.{node-there}
use Rattle.cfg_nodes.proofs.WantedLaws.{octets-wanted, reaches-wanted, children-wanted, parts-are-wanted}
use Rattle.cfg_nodes.proofs.nodes.Nodes.of.Goals as goal

pub returns-clause-nodes : goal.returns-clause-nodes
returns-clause-nodes c = λ node is.
    let all = reverse c.args.lines.now in
    ap₂ (λ a b. a || b)
    (ap₂ (λ r b. is_some r || b) (ap (λ l. leaf_octets l node) c.in_ok-sizes.ensures.sizes) (c.in_ok-sizes.ensures.structures node)
    ∙ (node-there c.args.leaves.now node ∙ (ap (λ l. reaches (map (λ leaf. leaf.name) l) node) c.requires ∙ reaches-wanted (asked all) node (or_left _ _ is) (leaves all))))
    (c.in_ok-closed.ensures node ∙ ap (λ names. reaches names node) (c.deref.ensures.value ∙ c.in_ok-closed_of.ensures))

pub returns-clause-members : goal.returns-clause-members
returns-clause-members c = λ node is.
    let all = reverse c.args.lines.now in
    ap₂ (λ a b. not a && not (nat_lt 500 b))
    (c.in_ok-closed.ensures node ∙ ap (λ names. reaches names node) (c.deref.ensures.value ∙ c.in_ok-closed_of.ensures))
    (octets_same (λ n. is_wanted (asked all) n ≡ true) (octets_in c.in_ok-sizes.sizes) (leaf_octets (leaves all)) (parts_in c.in_ok-sizes.parts) (children (leaf_names all))
    (λ n wants. ap (λ l. leaf_octets l n) (c.in_ok-sizes.ensures.sizes ∙ c.requires) ∙ octets-wanted (asked all) n wants (leaves all))
    (λ n wants. c.in_ok-sizes.ensures.parts n ∙ (ap (λ l. children (map (λ leaf. leaf.name) l) n) c.requires ∙ children-wanted (asked all) n wants (leaves all)))
    (λ n wants. parts-are-wanted (asked all) n (leaf_names all) wants) 10 node (or_left _ _ is))
