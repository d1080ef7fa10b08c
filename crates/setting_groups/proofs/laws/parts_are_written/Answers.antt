-- why `laws::parts_are_written` answers as its contract says
use Rattle.setting_groups.proofs.LoadLaws.{part-gives}
use Rattle.setting_groups.proofs.PartLaws.{answered, part-stands, reads}
use Rattle.setting_groups.proofs.laws.parts_are_written.Goals as goal

pub returns-clause-answered : goal.returns-clause-answered
returns-clause-answered c = λ m s a d part v past h below some. answered m s d past (h.blocks d below some) a part v

pub returns-clause-read : goal.returns-clause-read
returns-clause-read c = λ m s d part past h below some. reads m s d past (h.blocks d below some) part

pub returns-clause-stands : goal.returns-clause-stands
returns-clause-stands c = λ m s a d n t part v before is_set h below some is. part-stands m before n t s h d below some a part v is_set is

pub returns-clause-given : goal.returns-clause-given
returns-clause-given c = λ m s a d moment x part v before is_set h complete below some is. part-gives m before s h complete d below some a moment x part v is_set is
