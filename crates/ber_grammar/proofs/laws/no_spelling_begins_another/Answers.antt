-- why `laws::no_spelling_begins_another` answers as its contract says
use Rattle.ber_grammar.proofs.Theorems.{prefix_free}
use Rattle.ber_grammar.proofs.laws.no_spelling_begins_another.Goals as goal

pub returns : goal.returns
returns c = prefix_free
