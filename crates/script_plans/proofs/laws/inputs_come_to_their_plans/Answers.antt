-- why `laws::inputs_come_to_their_plans` answers as its contract says
use Rattle.script_plans.proofs.WholeLaws.{comes}
use Rattle.script_plans.proofs.PlanLaws.{plans-are, plan-one}
use Rattle.script_plans.proofs.laws.inputs_come_to_their_plans.Goals as goal

pub returns : goal.returns
returns c = record { whole = comes; plan = plans-are; one = plan-one }
