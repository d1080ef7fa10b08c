-- why `replies_variables::node_name` answers as its contract says
use Rattle.std.proofs.Common.{◌≡◌, ℕ, List, IfOk, subst}
use Rattle.bay_answers.proofs.RepliesContentsLaws.{named_node}
use Rattle.bay_answers.proofs.replies_variables.node_name.Goals as goal

pub returns : goal.returns
returns c =
    subst (λ (o : List ℕ). IfOk c.domain_octets.result (λ v. v.items ≡ o))
    (named_node c.args.model.now c.args.node c.domain_of.result.now c.item_of.result.now c.domain_of.ensures c.item_of.ensures)
    c.domain_octets.ensures
