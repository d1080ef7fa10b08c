-- The record of a rehearsal, read as any record is: it has the plan's configuration, and the history of which it was made, where
-- every step of the process is actor 0's; and the answers are the text of that history.
use Rattle.std.specs.Prelude.{◌≡◌, Some, ◌++◌, codes}
use Rattle.bay_model.specs.Answers.{History}
use Rattle.bay_histories.specs.Histories.{IsShuffle}
use Rattle.record_outcome.specs.Histories.{Recorded, lines_of, history_of}
use Rattle.record_outcome.specs.Texts.{turns_in, record_text}
use Rattle.actor_scripts.specs.Raced.{actors}
use Rattle.script_plans.specs.Plans.{Plan, turns_of}
use Rattle.script_plans.specs.Sound.{IsSound}
use Rattle.history_laws.specs.Written.{history_written}
use Rattle.race_records.specs.Merged.{record_of, answers_to}

pub record IsReadBack (p : Plan) (h : History) : Type 0 where
  pub recorded : Recorded
  pub history : history_of (lines_of (record_of p h)) ≡ Some recorded
  pub config : recorded.config ≡ p.config
  pub turns : turns_in recorded.steps ≡ history_written h
  pub text : answers_to p h ≡ record_text (Some recorded) ++ codes "end\n"

abbrev pub MergedAreReadBack : Type 0
MergedAreReadBack = (p : Plan) (h : History) → IsSound p → IsShuffle actors (turns_of p) h → IsReadBack p h
