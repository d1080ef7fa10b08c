-- why `racing::play_all` answers as its contract says
use denote.Exit.{no}
use denote.Param.Send.{sendable, param_send, arg_send, param_sync, arg_sync}
use Rattle.std.proofs.Crossing.{crosses}
use Rattle.script_threads.proofs.SendLaws.{played_send}
use Rattle.script_threads.proofs.Closures.{job_send, plays_sync}
use Rattle.script_threads.proofs.racing.play_all.Goals as goal

pub map_vec-requires-send-J : goal.map_vec-requires-send-J
map_vec-requires-send-J g c κs within = param_send _ _ (arg_send _ no _ (job_send _ _ g.M.StateMachine c.type_bounds.send-M c.type_bounds.send-G))

pub map_vec-requires-send-X : goal.map_vec-requires-send-X
map_vec-requires-send-X g c κs within = search (played_send, crosses, sendable) depth 60

pub map_vec-requires-sync-F : goal.map_vec-requires-sync-F
map_vec-requires-sync-F g c κs within = param_sync _ _ (arg_sync _ no _ (plays_sync _ _ _ g.M.StateMachine _ _ c.type_bounds.sync-R c.type_bounds.send-M))
