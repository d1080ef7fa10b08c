-- why `laws::rows_join` answers as its contract says
use Rattle.ber_grammar.proofs.Theorems as theorems
use Rattle.ber_grammar.proofs.laws.rows_join.Goals as goal

pub returns : goal.returns
returns c = theorems.rows_join
