-- why `variable::are_variables` answers as its contract says
use Rattle.std.proofs.Common.{rules, tests, refl}
use Rattle.std.proofs.lemmas.Iterator.Search.{all_from_yields_List}
use Rattle.std.proofs.lemmas.Iterator.Consumers.{YieldsList-from_first}
use Rattle.ber_view.specs.View.{spot}
use Rattle.mms_pdu.specs.Variable.{variable_at}
use Rattle.mms_pdu.specs.Each.{is_read}
use Rattle.mms_pdu.proofs.variable.are_variables.Goals as goal

pub returns : goal.returns
returns c = all_from_yields_List (is_read variable_at) _ _ c.all.result c.all.ensures.ran (YieldsList-from_first spot (λ s. s) c.args.fields refl) (λ x b q k. search (rules, tests))
