-- why `crowd::spread` answers as its contract says
use denote.Exit.{no}
use denote.Param.Send.{param_send, arg_send}
use Rattle.edge_tests.proofs.Closures.{counted_send}
use Rattle.edge_tests.proofs.crowd.+spread.Goals as goal

pub join-made-requires-send-F : goal.join-made-requires-send-F
join-made-requires-send-F g t c κs within =
    param_send _ _ (arg_send _ no _ (counted_send _ _ _ g.M.StateMachine _ _ c.requires.crossing.0 c.requires.crossing.1))
