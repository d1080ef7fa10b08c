-- What a line of a record asks of a bay: nothing, the moment of the lines that follow, a step of an actor, what a piece of a stream comes
-- to, part by part, a refusal for a cause of a kind, or that it is the last line.
use Rattle.std.specs.Prelude.{ℕ, List}
use Rattle.bay_model.specs.declared.step.Step.{Step}
use Rattle.record_steps.specs.declared.heard.Heard.{Heard}

pub data Told : Type 0 where
  skip : Told
  pass_to : ℕ → Told
  turn : ℕ → Step → Told
  heard : List Heard → Told
  refused : ℕ → Told
  last : Told
