-- why `asked::Asked::may_want` answers as its contract says
use Rattle.std.proofs.Common.{ap, subst, sym, ◌∙◌}
use Rattle.cfg_lines.specs.Keys.{is_among}
use Rattle.cfg_nodes.specs.Asked.{IsApart}
use Rattle.cfg_nodes.proofs.HeadLaws.{apart}
use Rattle.cfg_nodes.proofs.asked.Asked.may_want.Goals as goal

pub returns : goal.returns
returns c off = subst (λ refs. IsApart refs c.args.domain.now c.args.node.now) c.self.view_is
    (apart c.self.inside.references c.self.inside.heads c.args.domain.now c.args.node.now c.deref.result.now c.has.result c.self.invariant (c.deref.ensures.value ∙ c.in_ok-put_node_key.ensures)
    (c.has.ensures ∙ ap (is_among c.self.inside.heads) c.head_of.ensures) off)
