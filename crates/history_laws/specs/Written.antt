-- The history of a record that is written of scripts: every step of the process is made by actor 0.
use Rattle.std.specs.Prelude.{ℕ, map}
use Rattle.bay_model.specs.declared.step.Step.{Step}
use Rattle.bay_model.specs.declared.step.Step.TheVariants as steps
use Rattle.bay_model.specs.Answers.{Turn, History}

-- the actor that a record has for a step of actor k
abbrev pub actor_of : ℕ → Step → ℕ
actor_of k (steps.Value settings) = 0
actor_of k (steps.Done n good) = 0
actor_of k (steps.Block n flag) = 0
actor_of k steps.Tick = 0
actor_of k _ = k

abbrev pub as_written : Turn → Turn
as_written t = record { moment = t.moment; actor = actor_of t.actor t.step; step = t.step }

abbrev pub history_written : History → History
history_written h = map as_written h
