-- why `replies::Replies::set_reply` answers as its contract says
use Rattle.std.proofs.Common.{sym, ◌∙◌}
use Rattle.data_sets.specs.Books.{is_name}
use Rattle.data_sets.proofs.PlaceLaws.{within}
use Rattle.bay_replies.proofs.replies.Replies.set_reply.Goals as goal

pub nodes-requires : goal.nodes-requires
nodes-requires c = within (λ s. is_name c.in_ok-name.name s.name) c.args.self.now.book.now.sets c.in-Some.number (sym c.number_named.ensures ∙ c.in-Some.is)
