-- why `laws::plans_are_sound` answers as its contract says
use Rattle.script_plans.proofs.SoundLaws as laws
use Rattle.script_plans.proofs.laws.plans_are_sound.Goals as goal

pub returns : goal.returns
returns c = record { sound = laws.plans_are_sound }
