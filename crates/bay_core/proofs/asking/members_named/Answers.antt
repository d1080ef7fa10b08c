-- why `asking::members_named` answers as its contract says
use Rattle.std.proofs.Common.{◌∙◌, sym}
use Rattle.data_sets.specs.Books.{is_name}
use Rattle.data_sets.proofs.PlaceLaws.{within}
use Rattle.bay_core.proofs.asking.members_named.Goals as goal

pub nodes-requires : goal.nodes-requires
nodes-requires c = within (λ s. is_name c.in_ok-name.name s.name) c.args.book.now.sets c.in-Some.number (sym c.number_named-number.ensures ∙ c.in-Some.is)
