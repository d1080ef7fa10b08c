-- why `laws::texts_are_of_histories` answers as its contract says
use Rattle.record_outcome.proofs.HistoryLaws.{text_is_of_history}
use Rattle.record_outcome.proofs.laws.texts_are_of_histories.Goals as goal

pub returns : goal.returns
returns c = record { text = text_is_of_history }
