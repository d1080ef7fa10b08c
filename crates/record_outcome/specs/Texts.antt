-- The text of a history: what a step is answered after those before it, as lines.
use Rattle.std.specs.Prelude.{ℕ, List, [], ◌∷◌, ◌++◌, Option, None, Some}
use Rattle.sv_base.specs.declared.config.Config.{Config}
use Rattle.bay_model.specs.Named.{configured_model}
use Rattle.bay_model.specs.Answers.{History, answer}
use Rattle.answer_text.specs.Texts.{lines_of}
use Rattle.record_outcome.specs.Histories.{Part, stepped, written, Recorded}

-- the parts of lines one after another, the newest first
abbrev pub parts_of : List (List Part) → List Part
parts_of [] = []
parts_of (parts ∷ before) = parts ++ parts_of before

-- the history that is made of them
abbrev pub turns_of : List Part → History
turns_of [] = []
turns_of (stepped t shape ∷ before) = t ∷ turns_of before
turns_of (written text ∷ before) = turns_of before

abbrev pub turns_in : List (List Part) → History
turns_in lines = turns_of (parts_of lines)

-- each step is answered in its shape, and what a stack answers of itself stands between
abbrev pub text_behind : Config → List Part → List ℕ
text_behind c [] = []
text_behind c (stepped t shape ∷ before) = text_behind c before ++ lines_of c shape t.step (answer (configured_model c) (turns_of before) t)
text_behind c (written text ∷ before) = text_behind c before ++ text

-- a line that comes to nothing is answered by no line
abbrev pub text_of : Config → List (List Part) → List ℕ
text_of c lines = text_behind c (parts_of lines)

-- the text of a record; none where its configuration isn't whole
abbrev pub record_text : Option Recorded → List ℕ
record_text None = []
record_text (Some r) = text_of r.config r.steps
