-- why `setting::keep_due` answers as its contract says
use Rattle.block_events.proofs.QuietLaws.{quiet-idle}
use Rattle.block_events.proofs.events.keep_due.Goals as goal

pub returns-else-gathers : goal.returns-else-gathers
returns-else-gathers c = λ parts was there. quiet-idle c.args.moment c.args.dues.now parts c.args.b was c.args.part.now there (c.gathers.ensures.none c.if-gathers.false)
