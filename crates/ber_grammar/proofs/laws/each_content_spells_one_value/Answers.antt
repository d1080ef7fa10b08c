-- why `laws::each_content_spells_one_value` answers as its contract says
use Rattle.ber_grammar.proofs.Theorems.{one_boolean, one_int, one_uint, one_bits}
use Rattle.ber_grammar.proofs.laws.each_content_spells_one_value.Goals as goal

pub returns : goal.returns
returns c = record { booleans = one_boolean; signed = one_int; unsigned = one_uint; bits = one_bits }
