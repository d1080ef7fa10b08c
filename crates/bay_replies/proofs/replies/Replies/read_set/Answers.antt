-- why `replies::Replies::read_set` answers as its contract says
use Rattle.std.proofs.Common.{◌≡◌, map, sym, ap, ap₂, ◌∙◌}
use Rattle.sv_base.specs.declared.numbers.NodeId.{NodeId}
use Rattle.bay_model.specs.Services.{set_name, read_reply}
use Rattle.data_sets.specs.Books.{is_name, number_named}
use Rattle.data_sets.proofs.PlaceLaws.{within}
use Rattle.bay_replies.specs.Given.{node_read}
use Rattle.bay_replies.specs.Replied.{asked_set, read_set_by}
use Rattle.bay_replies.proofs.replies.Replies.read_set.Goals as goal

pub nodes-requires : goal.nodes-requires
nodes-requires c = within (λ s. is_name c.in_ok-name.name s.name) c.args.self.now.book.now.sets c.in-Some.number (sym c.number_named.ensures ∙ c.in-Some.is)

pub returns-in_ok-results-in-Some : goal.returns-in_ok-results-in-Some
returns-in_ok-results-in-Some c =
    let r = c.args.self.now in
    let name = set_name c.args.domain.now c.args.item.now in
    let all = map (λ (x : NodeId). node_read r x.0) c.nodes.result.now in
    let is : c.in_ok-name.name ≡ name = c.in_ok-name.ensures in
    c.read_reply.ensures c.args.size all c.in_ok-results-in-Some.ensures
    ∙ (ap₂ (λ a ns. read_reply c.args.size a (map (λ (x : NodeId). node_read r x.0) ns)) (c.asked_set.ensures ∙ ap (asked_set c.args.spec) is) c.nodes.ensures
    ∙ ap (read_set_by r c.args.size name c.args.spec) (sym c.in-Some.is ∙ (c.number_named.ensures ∙ ap (λ n. number_named n r.book.now) is)))
