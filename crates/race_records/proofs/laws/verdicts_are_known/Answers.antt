-- why `laws::verdicts_are_known` answers as its contract says
use Rattle.race_records.proofs.KnownLaws as laws
use Rattle.race_records.proofs.laws.verdicts_are_known.Goals as goal

pub returns : goal.returns
returns c = record { known = laws.verdicts_are_known }
