-- why `time_laws::nothing_comes_early` answers as its contract says
use Rattle.report_block.proofs.DueLaws.{idle-before, due-stays}
use Rattle.report_block.proofs.time_laws.nothing_comes_early.Goals as goal

pub returns-clause-idle : goal.returns-clause-idle
returns-clause-idle c = λ was now step all part h. idle-before was now part step all h

pub returns-clause-waits : goal.returns-clause-waits
returns-clause-waits c = λ was now part later h. due-stays was now part later h
