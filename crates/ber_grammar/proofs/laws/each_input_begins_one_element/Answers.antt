-- why `laws::each_input_begins_one_element` answers as its contract says
use Rattle.ber_grammar.proofs.Theorems.{read_or_refused, one_element, one_fault, not_both}
use Rattle.ber_grammar.proofs.laws.each_input_begins_one_element.Goals as goal

pub returns : goal.returns
returns c = record { answered = read_or_refused; unique = one_element; one_cause = one_fault; not_both = not_both }
