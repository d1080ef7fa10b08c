-- A race of the scripts of a plan.
use Rattle.std.specs.Prelude.{◌≡◌, ℕ, List, length, map}
use Rattle.std.specs.List.{All}
use Rattle.sv_base.specs.declared.config.Config.{Config}
use Rattle.bay_model.specs.Answers.{History}
use Rattle.bay_histories.specs.Rules.{bay_rules}
use Rattle.actor_scripts.specs.Actors.{AreFalling, CanPlay}
use Rattle.actor_scripts.specs.Raced.{IsRaced}
use Rattle.script_threads.specs.declared.racing.Raced.{Raced}
use Rattle.actor_scripts.specs.declared.script.Script.{Script as Part}
use Rattle.script_plans.specs.Plans.{Plan}
use Rattle.script_plans.specs.Sound.{IsSound}
use Rattle.race_records.specs.Merged.{Book, book_of}
use Rattle.race_records.specs.Known.{AreScripts, AreOfPlan}

-- a sound plan of this configuration and text, whose scripts have these lines and are run so; the numbers of their actors fall
pub record IsOfPlan (p : Plan) (c : Config) (text : List ℕ) (book : Book) (ss : List Part) : Type 0 where
  pub sound : IsSound p
  pub config : p.config ≡ c
  pub text_ : p.text ≡ text
  pub book_ : book_of p ≡ book
  pub scripts : AreScripts p ss
  pub turns : AreOfPlan p ss
  pub falls : AreFalling 33 (map (λ (s : Part). s.actor) ss)
  pub plays : All (λ (s : Part). CanPlay c s) ss

-- what came of a race of these scripts
abbrev pub IsOfRace : Config → List Part → Raced → Type 0
IsOfRace c ss r = (h : History) × (r.total ≡ length h) × IsRaced bay_rules c ss r.parts.items h
