-- why `laws::each_input_is_one_row` answers as its contract says
use Rattle.ber_grammar.proofs.Theorems.{one_row}
use Rattle.ber_grammar.proofs.laws.each_input_is_one_row.Goals as goal

pub returns : goal.returns
returns c = one_row
