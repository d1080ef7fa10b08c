-- why `words::Words::is_empty` answers as its contract says
use Rattle.run_record.proofs.SeenLaws.{none-left}
use Rattle.run_record.proofs.words.Words.is_empty.Goals as goal

pub returns : goal.returns
returns c = none-left c.args.self.now.rest c.is_none.result c.is_none.ensures
