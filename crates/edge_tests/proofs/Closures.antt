-- A closure over the runtime, a history and a pass may go to another thread.
use Rattle.std.proofs.Common.{ℕ, List, [], ◌∷◌}
use denote.RattleType.{RattleType}
use denote.Ref.{NamedLft}
use denote.Builtin.{u32}
use denote.Param.{param}
use denote.Param.Send.{IsSend, IsSync, AllSend, sendable, struct_send, shr_send, param_send, param_sync}
use denote.Struct.Declared as S
use denote.Struct.Field.{shr_ref_field}
use denote.Struct.Tuple.{TupleAt, type_at}
use Rattle.bay_histories.specs.declared.machine.StateMachine.{Ghosts}
use Rattle.history_lock.proofs.SendLaws.{pass_send, history_sync}
use Rattle.history_lock.specs.contracts.history.Pass as Pass
use Rattle.history_lock.specs.contracts.history.History as History

runtime_send : (T : RattleType) (a : NamedLft) → IsSync T → IsSend (shr_ref_field a (param 0 T) tt).row
runtime_send T a s = shr_send a.mir a.lft (param 0 T) (param_sync 0 T s)

number_send : IsSend u32
number_send = search sendable

abbrev history_row : (M : RattleType) → Ghosts M.Denot → RattleType
history_row M ghosts = History.the_row (param 1 M) ghosts

abbrev pass_row : (M : RattleType) → Ghosts M.Denot → RattleType
pass_row M ghosts = Pass.the_row (param 1 M) ghosts

history_send : (M : RattleType) (ghosts : Ghosts M.Denot) (b : NamedLft) → IsSend M → IsSend (shr_ref_field b (history_row M ghosts) tt).row
history_send M ghosts b m = shr_send b.mir b.lft (history_row M ghosts) (history_sync (param 1 M) ghosts (param_send 1 M m))

abbrev captured : (T M : RattleType) → Ghosts M.Denot → (a b : NamedLft) → List RattleType
captured T M ghosts a b = (shr_ref_field a (param 0 T) tt).row ∷ (shr_ref_field b (history_row M ghosts) tt).row ∷ pass_row M ghosts ∷ []

fields_send : (name : List ℕ) (T M : RattleType) (ghosts : Ghosts M.Denot) (a b : NamedLft) → IsSync T → IsSend M
    → AllSend (S.shape (type_at name (captured T M ghosts a b))).fields
fields_send name T M ghosts a b s m = (runtime_send T a s, (history_send M ghosts b m, (pass_send (param 1 M) ghosts (param_send 1 M m), tt)))

pub turns_send : (name : List ℕ) (T M : RattleType) (ghosts : Ghosts M.Denot) (a b : NamedLft) → IsSync T → IsSend M
    → IsSend (TupleAt name ((shr_ref_field a (param 0 T) tt).row ∷ (shr_ref_field b (history_row M ghosts) tt).row ∷ pass_row M ghosts ∷ []))
turns_send name T M ghosts a b s m = search (struct_send (S.shape (type_at name (captured T M ghosts a b))) (fields_send name T M ghosts a b s m), sendable) depth 60

-- the same with a number
abbrev counted : (T M : RattleType) → Ghosts M.Denot → (a b : NamedLft) → List RattleType
counted T M ghosts a b = (shr_ref_field a (param 0 T) tt).row ∷ (shr_ref_field b (history_row M ghosts) tt).row ∷ pass_row M ghosts ∷ u32 ∷ []

counted_fields_send : (name : List ℕ) (T M : RattleType) (ghosts : Ghosts M.Denot) (a b : NamedLft) → IsSync T → IsSend M
    → AllSend (S.shape (type_at name (counted T M ghosts a b))).fields
counted_fields_send name T M ghosts a b s m =
    (runtime_send T a s, (history_send M ghosts b m, (pass_send (param 1 M) ghosts (param_send 1 M m), (number_send, tt))))

pub counted_send : (name : List ℕ) (T M : RattleType) (ghosts : Ghosts M.Denot) (a b : NamedLft) → IsSync T → IsSend M
    → IsSend (TupleAt name ((shr_ref_field a (param 0 T) tt).row ∷ (shr_ref_field b (history_row M ghosts) tt).row ∷ pass_row M ghosts ∷ u32 ∷ []))
counted_send name T M ghosts a b s m =
    search (struct_send (S.shape (type_at name (counted T M ghosts a b))) (counted_fields_send name T M ghosts a b s m), sendable) depth 60
