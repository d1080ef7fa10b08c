-- why `entry_ids::entry_ids_are_named_or_refused` answers as its contract says
use Rattle.history_laws.proofs.EntryIdLaws.{entry_ids_named}
use Rattle.history_laws.proofs.entry_ids.entry_ids_are_named_or_refused.Goals as goal

pub returns : goal.returns
returns c = entry_ids_named
