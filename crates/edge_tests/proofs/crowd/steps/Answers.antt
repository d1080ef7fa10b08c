-- why `crowd::steps` answers as its contract says
use denote.Exit.{no}
use denote.Param.Send.{arg_send, param_send}
use Rattle.bay_core.proofs.SendLaws.{bay_send}
use Rattle.edge_tests.proofs.crowd.steps.Goals as goal

pub steps_of-requires-send-M : goal.steps_of-requires-send-M
steps_of-requires-send-M g c κs within = param_send _ _ (arg_send _ no _ bay_send)
