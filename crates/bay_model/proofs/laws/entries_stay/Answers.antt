-- why `laws::entries_stay` answers as its contract says
use Rattle.bay_model.proofs.EntryLaws.{entries_stay}
use Rattle.bay_model.proofs.laws.entries_stay.Goals as goal

pub returns : goal.returns
returns c = record { stay = entries_stay }
