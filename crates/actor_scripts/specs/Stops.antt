-- Steps that a machine can be given, and where a script stops.
use Rattle.std.specs.Prelude.{◌≡◌, ℕ, true, List, length, Option, None, Some, slice_get}
use Rattle.std.specs.List.{All}
use Rattle.sv_base.specs.declared.config.Config.{Config}
use Rattle.object_model.specs.Fits.{fits}
use Rattle.bay_model.specs.Answers.{History}
use Rattle.bay_histories.specs.declared.fault.StepFault.{StepFault}
use Rattle.bay_histories.specs.Rules.{Rules}
use Rattle.bay_histories.specs.Histories.{turn_of, IsRefused}
use Rattle.actor_scripts.specs.declared.script.TimedStep.{TimedStep}

-- steps that a machine of this configuration can be given
abbrev pub AreFit : Config → List TimedStep → Type 0
AreFit c steps = All (λ (s : TimedStep). fits c s.step ≡ true) steps

-- Why actor k stopped once n steps were answered: none are left, or the next one was refused after what the actor had then seen.
abbrev pub StopsAt : Rules → Config → ℕ → List TimedStep → ℕ → Option StepFault → History → Type 0
StopsAt rules c k steps n None seen = n ≡ length steps
StopsAt rules c k steps n (Some f) seen = (s : TimedStep) × (slice_get steps n ≡ Some s) × IsRefused rules c seen (turn_of s.moment k s.step) f
