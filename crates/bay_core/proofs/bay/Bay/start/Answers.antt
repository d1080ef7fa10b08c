-- why `bay::Bay::start` answers as its contract says
use Rattle.std.proofs.Common.{◌∙◌, ap}
use Rattle.assoc_table.specs.Tables.{row_of}
use Rattle.bay_core.specs.State.{State}
use Rattle.bay_core.proofs.bay.Bay.start.Goals as goal

pub start-requires-clause-closed : goal.start-requires-clause-closed
start-requires-clause-closed c = ap (λ (s : State). (row_of s.rows c.args.a.0).ends) c.self.view_is ∙ c.requires.closed
