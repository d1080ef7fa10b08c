-- why `model::Model::leaves_of` answers as its contract says
use Rattle.std.proofs.Common.{◌∙◌, ◌-◌, ◌≤◌, length, take, drop, map, ap, subst, sym, get_or}
use Rattle.name_tree.specs.declared.stands.Stand.{Stand}
use Rattle.name_leaves.specs.declared.what.What.TheVariants as whats
use Rattle.name_leaves.specs.Leaves.{leaf_seen}
use Rattle.name_tree.specs.Stands.{all_leaves}
use Rattle.object_model.proofs.StandsLaid.{within-stands, stands-read}
use Rattle.object_model.proofs.model.Model.leaves_of.Goals as goal

abbrev no_stand : Stand
no_stand = record { what = whats.Attribute 0; first = 0; end = 0 }

pub bounds-as_slice-node : goal.bounds-as_slice-node
bounds-as_slice-node c = within-stands c.self.inside.config c.args.self.now c.as_slice.result.now c.args.node.0 c.self.view_is (c.as_slice.ensures.value ∙ c.self.invariant.3.stands) c.requires

pub between-requires-clause-ordered : goal.between-requires-clause-ordered
between-requires-clause-ordered c = (stands-read c.self.inside.config c.args.self.now c.as_slice.result.now c.args.node.0 no_stand c.self.view_is (c.as_slice.ensures.value ∙ c.self.invariant.3.stands) c.requires).ordered

pub between-requires-clause-within : goal.between-requires-clause-within
between-requires-clause-within c = subst (λ l. (get_or c.as_slice.result.now c.args.node.0 no_stand).end ≤ length l) (sym (c.as_slice-2.ensures.value ∙ (c.self.invariant.3.leaves ∙ ap all_leaves c.self.view_is)))
    (stands-read c.self.inside.config c.args.self.now c.as_slice.result.now c.args.node.0 no_stand c.self.view_is (c.as_slice.ensures.value ∙ c.self.invariant.3.stands) c.requires).within

pub returns : goal.returns
returns c = ap (map leaf_seen) c.between.ensures ∙ (ap (λ l. map leaf_seen (take ((get_or c.as_slice.result.now c.args.node.0 no_stand).end - (get_or c.as_slice.result.now c.args.node.0 no_stand).first) (drop (get_or c.as_slice.result.now c.args.node.0 no_stand).first l))) (c.as_slice-2.ensures.value ∙ (c.self.invariant.3.leaves ∙ ap all_leaves c.self.view_is))
    ∙ (stands-read c.self.inside.config c.args.self.now c.as_slice.result.now c.args.node.0 no_stand c.self.view_is (c.as_slice.ensures.value ∙ c.self.invariant.3.stands) c.requires).leaves)
