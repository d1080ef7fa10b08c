-- why `laws::settings_are_the_definition` answers as its contract says
use Rattle.setting_groups.proofs.SettingLaws.{edits, copies, confirms}
use Rattle.setting_groups.proofs.ValueLaws.{values}
use Rattle.setting_groups.proofs.OpenLaws.{opened_stands}
use Rattle.setting_groups.proofs.laws.settings_are_the_definition.Goals as goal

pub returns-clause-edit : goal.returns-clause-edit
returns-clause-edit c = λ c' s a d g n m before h there to. edits c' before n m s h a d g there to

pub returns-clause-write : goal.returns-clause-write
returns-clause-write c = λ c' s a k n m v before h below. copies c' before n m s h a k v below

pub returns-clause-confirm : goal.returns-clause-confirm
returns-clause-confirm c = λ c' s a d n m before h there some. confirms c' before n m s h a d there some

pub returns-clause-values : goal.returns-clause-values
returns-clause-values c = λ c' s n m settings before h. values c' before n m s h settings

pub returns-clause-opened : goal.returns-clause-opened
returns-clause-opened c = opened_stands
