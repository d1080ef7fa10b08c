-- What a rehearsal's input comes to: a configuration, and a script for each actor that has one.
use Rattle.std.specs.Prelude.{ℕ, List, [], ◌∷◌, ◌++◌, Option, None, Some, set, replicate, slice_index_or}
use Rattle.sv_base.specs.declared.config.Config.{Config}
use Rattle.bay_model.specs.Answers.{History}
use Rattle.actor_scripts.specs.Scripts.{turns_by}
use Rattle.actor_scripts.specs.declared.script.TimedStep.{TimedStep}
use Rattle.script_plans.specs.declared.line.StepLine.{StepLine}

-- How many scripts begin before it; its lines that make steps, and these steps at their moments, in order.
pub record Script : Type 0 where
  pub place : ℕ
  pub lines : List StepLine
  pub steps : List TimedStep

-- The scripts stand by the numbers of their actors: 1 to 16 are the associations, 17 to 32 the scripts of the process in their
-- order. The text is that of the configuration's lines, with their newlines.
pub record Plan : Type 0 where
  pub config : Config
  pub text : List ℕ
  pub scripts : List (Option Script)
  -- how many scripts have begun, and how many of these are the process's
  pub count : ℕ
  pub processes : ℕ

abbrev pub script_of : Plan → ℕ → Option Script
script_of p k = slice_index_or p.scripts k None

-- what actor k is to do, as turns, the newest first
abbrev pub script_turns : ℕ → Option Script → History
script_turns k None = []
script_turns k (Some s) = turns_by k s.steps

abbrev pub turns_of : Plan → ℕ → History
turns_of p k = script_turns k (script_of p k)

-- ---- changes

abbrev pub no_scripts : List (Option Script)
no_scripts = replicate 33 None

abbrev pub without_scripts : Config → List ℕ → Plan
without_scripts c text = record { config = c; text = text; scripts = no_scripts; count = 0; processes = 0 }

abbrev pub with_script : Plan → ℕ → Script → Plan
with_script p k s = record { config = p.config; text = p.text; scripts = set p.scripts k (Some s); count = p.count; processes = p.processes }

abbrev pub with_line : Script → StepLine → TimedStep → Script
with_line s l step = record { place = s.place; lines = s.lines ++ l ∷ []; steps = s.steps ++ step ∷ [] }
