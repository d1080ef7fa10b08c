-- What comes of a race of a plan's scripts, where no turn found memory lacking.
use Rattle.std.specs.Prelude.{◌≡◌, ◌==◌, ℕ, suc, true, false, List, [], ◌∷◌, ◌++◌, map, cond, Option, None, Some}
use Rattle.bay_model.specs.Answers.{History}
use Rattle.bay_histories.specs.Rules.{bay_rules}
use Rattle.actor_scripts.specs.Raced.{IsRaced}
use Rattle.actor_scripts.specs.declared.part.Part.{Part}
use Rattle.actor_scripts.specs.declared.script.Script.{Script as Played}
use Rattle.actor_scripts.specs.declared.script.TimedStep.{TimedStep}
use Rattle.actor_scripts.specs.Scripts.{turns_by}
use Rattle.script_plans.specs.Plans.{Script, Plan, turns_of}
use Rattle.script_plans.specs.Sound.{IsSound}
use Rattle.race_records.specs.Merged.{book_of}
use Rattle.race_records.specs.Verdicts.{lowest_full, all_went, lacks_memory}
use Rattle.race_records.specs.Bounds.{lowest_beyond, IsBeyondOf, IsWithoutOpers}

-- an actor's number and its steps
abbrev pub Role : Type 0
Role = ℕ × List TimedStep

abbrev pub role_of : Played → Role
role_of s = (s.actor, s.steps.items)

-- those of scripts that have the numbers from n up, the highest first
abbrev pub roles_from : ℕ → List (Option Script) → List Role
roles_from n [] = []
roles_from n (None ∷ ss) = roles_from (suc n) ss
roles_from n (Some s ∷ ss) = roles_from (suc n) ss ++ (n, s.steps) ∷ []

-- the scripts that are run are those of the plan
abbrev pub AreScripts : Plan → List Played → Type 0
AreScripts p ss = map role_of ss ≡ roles_from 0 p.scripts

-- the turns of actor k, where one of the scripts is its
abbrev pub turns_among : List Played → ℕ → History
turns_among [] k = []
turns_among (s ∷ ss) k = cond (s.actor == k) (turns_by k s.steps.items) (turns_among ss k)

-- what they do is what the plan's scripts do
abbrev pub AreOfPlan : Plan → List Played → Type 0
AreOfPlan p ss = (k : ℕ) → turns_among ss k ≡ turns_of p k

-- The lowest line whose turn met a full queue is one at whose request the script's own bound is at least 16, and where no script writes an Oper of a
-- control under enhanced security, it is the lowest such line; where there is no such line, no turn met one. Where none did, all turns went.
pub record IsKnown (p : Plan) (ps : List Part) : Type 0 where
  pub beyond : (line : ℕ) → lowest_full (book_of p) ps ≡ Some line → IsBeyondOf p line
  pub exact : IsWithoutOpers p → lowest_full (book_of p) ps ≡ lowest_beyond p
  pub within : lowest_beyond p ≡ None → lowest_full (book_of p) ps ≡ None
  pub went : lowest_full (book_of p) ps ≡ None → all_went ps ≡ true

abbrev pub VerdictsAreKnown : Type 0
VerdictsAreKnown = (p : Plan) (ss : List Played) (ps : List Part) (h : History) → IsSound p → AreScripts p ss → IsRaced bay_rules p.config ss ps h
    → lacks_memory ps ≡ false → IsKnown p ps
