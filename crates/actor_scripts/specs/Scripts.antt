-- The steps of scripts in a history, and what is told of them.
use Rattle.std.specs.Prelude.{ℕ, ◌==◌, List, [], ◌∷◌, ◌++◌, length, cond}
use Rattle.sv_base.specs.declared.config.Config.{Config}
use Rattle.bay_model.specs.Answers.{Turn, History}
use Rattle.bay_histories.specs.Rules.{Rules}
use Rattle.bay_histories.specs.Histories.{turn_of, by}
use Rattle.actor_scripts.specs.declared.script.TimedStep.{TimedStep}
use Rattle.actor_scripts.specs.declared.part.Reply.{Reply}
use Rattle.actor_scripts.specs.declared.made.Made.{Made}

-- the steps of a script as turns of actor k, the newest first, after those that it made before
abbrev pub turns_onto : ℕ → List TimedStep → History → History
turns_onto k [] before = before
turns_onto k (s ∷ ss) before = turns_onto k ss (turn_of s.moment k s.step ∷ before)

abbrev pub turns_by : ℕ → List TimedStep → History
turns_by k steps = turns_onto k steps []

-- what the steps of actor k were answered, and their places, the oldest first
abbrev pub reply_to : Rules → Config → History → Turn → Reply
reply_to rules c h t = record { place = length h; answer = rules.answer c h t }

abbrev pub replies_of : Rules → Config → ℕ → History → List Reply
replies_of rules c k [] = []
replies_of rules c k (t ∷ h) = cond (t.actor == k) (replies_of rules c k h ++ reply_to rules c h t ∷ []) (replies_of rules c k h)

-- all steps of a history, the oldest first: the actor, which of its steps it is, and what it was answered
abbrev pub made_from : Rules → Config → History → Turn → Made
made_from rules c h t = record { actor = t.actor; index = length (by t.actor h); answer = rules.answer c h t }

abbrev pub made_of : Rules → Config → History → List Made
made_of rules c [] = []
made_of rules c (t ∷ h) = made_of rules c h ++ made_from rules c h t ∷ []

-- step j of actor k, with its reply
abbrev pub made : ℕ → ℕ → Reply → Made
made k j r = record { actor = k; index = j; answer = r.answer }
