-- why `laws::bays_cross_threads` answers as its contract says
use Rattle.bay_histories.proofs.SendLaws.{step_send, answer_send}
use Rattle.bay_core.proofs.SendLaws.{bay_send}
use Rattle.bay_core.proofs.SyncLaws.{step_sync}
use Rattle.bay_core.proofs.laws.bays_cross_threads.Goals as goal

pub returns-clause-bay : goal.returns-clause-bay
returns-clause-bay c = bay_send

pub returns-clause-step : goal.returns-clause-step
returns-clause-step c = step_send

pub returns-clause-answer : goal.returns-clause-answer
returns-clause-answer c = answer_send

pub returns-clause-shared : goal.returns-clause-shared
returns-clause-shared c = step_sync
