-- why `laws::models_cross_threads` answers as its contract says
use Rattle.object_model.proofs.SendLaws.{model_send}
use Rattle.object_model.proofs.SyncLaws.{model_sync}
use Rattle.object_model.proofs.laws.models_cross_threads.Goals as goal

pub returns-clause-sent : goal.returns-clause-sent
returns-clause-sent c = model_send

pub returns-clause-shared : goal.returns-clause-shared
returns-clause-shared c = model_sync
