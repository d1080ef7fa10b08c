-- What is applied of a record: its steps so far, the moment of the next one, and what each association is.
use Rattle.std.specs.Prelude.{ℕ, [], ◌∷◌}
use Rattle.bay_model.specs.declared.step.Step.{Step}
use Rattle.bay_model.specs.Points.{least_moment}
use Rattle.bay_model.specs.Answers.{Turn, History}
use Rattle.run_record.specs.declared.line.RecLine.{RecLine}
use Rattle.record_steps.specs.Forms.{Form, shut, form_behind}

pub record Played : Type 0 where
  pub moment : ℕ
  pub turns : History
  -- of association a
  pub form : ℕ → Form

abbrev pub start : Played
start = record { moment = least_moment; turns = []; form = λ a. shut }

abbrev pub turn_at : Played → ℕ → Step → Turn
turn_at s actor step = record { moment = s.moment; actor = actor; step = step }

-- after one step more, or at another moment
abbrev pub with_turn : Played → Turn → Played
with_turn s t = record { moment = s.moment; turns = t ∷ s.turns; form = s.form }

abbrev pub at_moment : Played → ℕ → Played
at_moment s ms = record { moment = ms; turns = s.turns; form = s.form }

-- with what a line makes of the associations
abbrev pub past_line : Played → RecLine → Played
past_line s line = record { moment = s.moment; turns = s.turns; form = λ a. form_behind a line (s.form a) }
