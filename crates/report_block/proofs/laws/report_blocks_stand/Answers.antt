-- why `laws::report_blocks_stand` answers as its contract says
use Rattle.report_block.proofs.StandLaws.{opened, arrival-stands, deed-stands, again-stands, idle}
use Rattle.report_block.proofs.laws.report_blocks_stand.Goals as goal

pub returns-clause-opened : goal.returns-clause-opened
returns-clause-opened c = λ c' b part. opened c' b part

pub returns-clause-arrival : goal.returns-clause-arrival
returns-clause-arrival c = λ c' b m n before part all s. arrival-stands c' b m n before part all s

pub returns-clause-deed : goal.returns-clause-deed
returns-clause-deed c = λ c' b m n d before part k. deed-stands c' b m n d before part k

pub returns-clause-again : goal.returns-clause-again
returns-clause-again c = λ c' b m n q before part. again-stands c' b m n q before part

pub returns-clause-idle : goal.returns-clause-idle
returns-clause-idle c = λ was now step all part. idle was now step all part
