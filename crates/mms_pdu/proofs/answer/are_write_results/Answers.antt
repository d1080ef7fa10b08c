-- why `answer::are_write_results` answers as its contract says
use Rattle.std.proofs.Common.{rules, tests, refl}
use Rattle.std.proofs.lemmas.Iterator.Search.{all_from_yields_List}
use Rattle.std.proofs.lemmas.Iterator.Consumers.{YieldsList-from_first}
use Rattle.ber_view.specs.View.{spot}
use Rattle.mms_pdu.specs.Answer.{is_written}
use Rattle.mms_pdu.proofs.answer.are_write_results.Goals as goal

pub returns : goal.returns
returns c = all_from_yields_List is_written _ _ c.all.result c.all.ensures.ran (YieldsList-from_first spot (λ s. s) c.args.fields refl) (λ x b q k. search (rules, tests))
