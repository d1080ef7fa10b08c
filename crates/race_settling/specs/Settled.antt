-- What a race of the scripts of a plan comes to.
use Rattle.std.specs.Prelude.{◌≡◌, ℕ, List, ◌++◌, None, Some, Result, Ok, Err}
use Rattle.std.specs.declared.alloc.Global.{Global}
use Rattle.std.specs.Prelude.{Vec}
use Rattle.bay_model.specs.Answers.{History}
use Rattle.bay_histories.specs.Rules.{bay_rules}
use Rattle.bay_histories.specs.Histories.{IsLegal, IsShuffle}
use Rattle.record_outcome.specs.declared.status.Status.{Status}
use Rattle.record_outcome.specs.declared.status.Status.TheVariants as statuses
use Rattle.script_plans.specs.Plans.{Plan, turns_of}
use Rattle.actor_scripts.specs.Raced.{actors, IsRaced}
use Rattle.actor_scripts.specs.declared.part.Part.{Part}
use Rattle.actor_scripts.specs.declared.script.Script.{Script as Part_}
use Rattle.race_records.specs.Merged.{book_of, record_of, answers_to}
use Rattle.race_records.specs.ReadBack.{IsReadBack}
use Rattle.race_records.specs.Bounds.{lowest_beyond, IsBeyondOf, IsWithoutOpers}
use Rattle.race_records.specs.Known.{AreScripts}
use Rattle.race_records.specs.Verdicts.{lowest_full}

-- threads made this history: each step was accepted after those before it, and it is a shuffle of the whole scripts of the plan
abbrev pub IsMade : Plan → History → Type 0
IsMade p h = IsLegal bay_rules p.config h × IsShuffle actors (turns_of p) h

-- the record that the scripts made in a history, and its answers; it is read back as that history
pub record IsWritten (p : Plan) (octets : List ℕ) : Type 0 where
  pub history : History
  pub made : IsMade p history
  pub octets_ : octets ≡ record_of p history ++ answers_to p history
  pub back : IsReadBack p history

-- Threads made a history of all of the scripts, and this is what is written of it. Where no script writes an Oper of a control under enhanced
-- security, none asks where its own bound is at least 16.
pub record Goes (p : Plan) (octets : List ℕ) : Type 0 where
  pub room : IsWithoutOpers p → lowest_beyond p ≡ None
  pub written : IsWritten p octets

-- This is a line that asks where the bound of its own script is at least 16, and the lowest such line, where no script writes an Oper of a control
-- under enhanced security. In a history that has of each script a beginning and no other step, the next turn of its script was answered
-- that the queue is full; no lower line's turn was.
pub record MeetsFull (p : Plan) (line : ℕ) : Type 0 where
  pub beyond : IsBeyondOf p line
  pub first : IsWithoutOpers p → lowest_beyond p ≡ Some line
  pub history : History
  pub scripts : List Part_
  pub are : AreScripts p scripts
  pub parts : List Part
  pub raced : IsRaced bay_rules p.config scripts parts history
  pub lowest : lowest_full (book_of p) parts ≡ Some line

-- the race of a plan: its record, or the status with which it ends
abbrev pub Performs : Plan → Result (Vec ℕ Global) Status → Type 0
Performs p (Ok out) = Goes p out.items
Performs p (Err (statuses.Limit which line)) = (which ≡ 2) × MeetsFull p line
Performs p (Err _) = ⊥
