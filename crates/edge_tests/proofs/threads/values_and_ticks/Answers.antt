-- why `threads::values_and_ticks` answers as its contract says
use denote.Exit.{no}
use denote.Param.Send.{param_send, arg_send}
use Rattle.history_lock.proofs.SendLaws.{pass_send}
use Rattle.edge_tests.proofs.Closures.{turns_send}
use Rattle.edge_tests.proofs.threads.values_and_ticks.Goals as goal

pub join-made-requires-send-F : goal.join-made-requires-send-F
join-made-requires-send-F g c κs within = param_send _ _ (arg_send _ no _ (turns_send _ _ _ g.M.StateMachine _ _ c.type_bounds.sync-R c.type_bounds.send-M))

pub join-made-requires-send-A : goal.join-made-requires-send-A
join-made-requires-send-A g c κs within = param_send _ _ (arg_send _ no _ (pass_send _ g.M.StateMachine c.type_bounds.send-M))
