-- Several threads may call the closure over the runtime and a history.
use Rattle.std.proofs.Common.{ℕ, List, [], ◌∷◌}
use denote.RattleType.{RattleType}
use denote.Ref.{NamedLft}
use denote.Param.{param}
use denote.Param.Send.{IsSend, IsSync, AllSync, sendable, struct_sync, shr_sync, param_send, param_sync}
use denote.Struct.Declared as S
use denote.Struct.Field.{shr_ref_field}
use denote.Struct.Tuple.{TupleAt, type_at}
use Rattle.bay_histories.specs.declared.machine.StateMachine.{Ghosts}
use Rattle.history_lock.proofs.SendLaws.{pass_send, history_sync}
use Rattle.script_threads.specs.contracts.job.Job as Job
use Rattle.script_threads.proofs.SendLaws.{script_field_send, reply_field_send}
use Rattle.std.proofs.Crossing.{crosses}
use Rattle.history_lock.specs.contracts.history.History as History

pub job_send : (M T : RattleType) (ghosts : Ghosts M.Denot) → IsSend M → IsSend T → IsSend (Job.the_row (param 1 M) (param 2 T) ghosts)
job_send M T ghosts s t = search (pass_send, script_field_send, reply_field_send, crosses, sendable) depth 60

runtime_sync : (T : RattleType) (a : NamedLft) → IsSync T → IsSync (shr_ref_field a (param 0 T) tt).row
runtime_sync T a s = shr_sync a.mir a.lft (param 0 T) (param_sync 0 T s)

abbrev row_of : (M : RattleType) → Ghosts M.Denot → RattleType
row_of M ghosts = History.the_row (param 1 M) ghosts

shared_sync : (M : RattleType) (ghosts : Ghosts M.Denot) (b : NamedLft) → IsSend M → IsSync (shr_ref_field b (row_of M ghosts) tt).row
shared_sync M ghosts b s = shr_sync b.mir b.lft (row_of M ghosts) (history_sync (param 1 M) ghosts (param_send 1 M s))

abbrev captured : (T M : RattleType) → Ghosts M.Denot → (a b : NamedLft) → List RattleType
captured T M ghosts a b = (shr_ref_field a (param 0 T) tt).row ∷ (shr_ref_field b (row_of M ghosts) tt).row ∷ []

fields_sync : (name : List ℕ) (T M : RattleType) (ghosts : Ghosts M.Denot) (a b : NamedLft) → IsSync T → IsSend M
    → AllSync (S.shape (type_at name (captured T M ghosts a b))).fields
fields_sync name T M ghosts a b s m = (runtime_sync T a s, (shared_sync M ghosts b m, tt))

pub plays_sync : (name : List ℕ) (T M : RattleType) (ghosts : Ghosts M.Denot) (a b : NamedLft) → IsSync T → IsSend M
    → IsSync (TupleAt name ((shr_ref_field a (param 0 T) tt).row ∷ (shr_ref_field b (row_of M ghosts) tt).row ∷ []))
plays_sync name T M ghosts a b s m = search (struct_sync (S.shape (type_at name (captured T M ghosts a b))) (fields_sync name T M ghosts a b s m), sendable) depth 60
