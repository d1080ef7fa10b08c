-- why `laws::writes_are_answered` answers as its contract says
use Rattle.setting_groups.proofs.PartLaws.{copy-written}
use Rattle.setting_groups.proofs.laws.writes_are_answered.Goals as goal

pub returns-clause-copy : goal.returns-clause-copy
returns-clause-copy c = λ c' s a k y v past h below twin. copy-written c' s a k y v past h below twin
