-- why `laws::each_content_has_one_row_of_fields` answers as its contract says
use Rattle.ber_grammar.proofs.FieldLaws.{one_fields, one_field, one_only, one_whole}
use Rattle.ber_grammar.proofs.laws.each_content_has_one_row_of_fields.Goals as goal

pub returns : goal.returns
returns c = record { fields = one_fields; first = one_field; only = one_only; whole = one_whole }
