-- Where the reading of a rehearsal's input is, and what a line does.
use Rattle.std.specs.Prelude.{ℕ, List}
use Rattle.record_outcome.specs.declared.status.Status.{Status}
use Rattle.script_plans.specs.Plans.{Plan}
use Rattle.script_plans.specs.declared.opened.Opened.{Opened}

-- Before the line `rehearse 1`; among the lines of the configuration, whose octets so far these are, after n lines; between
-- scripts; or in a script that has begun.
pub data Place : Type 0 where
  opening : Place
  configuring : (before : ℕ) → List ℕ → Place
  between : Plan → Place
  inside : Plan → Opened → Place

-- the reading goes on, stops with a status, or has come to the last line
pub data Move : Type 0 where
  goes : Place → Move
  stops : Status → Move
  ends : Plan → Move
