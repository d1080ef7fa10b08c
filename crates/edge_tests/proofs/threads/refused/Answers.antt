-- why `threads::refused` answers as its contract says
use denote.Exit.{no}
use denote.Param.Send.{arg_send, param_send}
use Rattle.bay_core.proofs.SendLaws.{bay_send}
use Rattle.edge_tests.proofs.threads.refused.Goals as goal

pub refused_of-requires-send-M : goal.refused_of-requires-send-M
refused_of-requires-send-M g c κs within = param_send _ _ (arg_send _ no _ bay_send)
