-- The actors of a plan.
use Rattle.std.proofs.Common.{◌≡◌, ℕ, List, map, refl, sym, subst}
use Rattle.std.specs.List.{All}
use Rattle.sv_base.specs.declared.config.Config.{Config}
use Rattle.bay_config.specs.Servable.{IsServable}
use Rattle.text_configs.proofs.Served.{served}
use Rattle.actor_scripts.specs.Actors.{AreFalling, CanPlay}
use Rattle.actor_scripts.specs.declared.script.Script.{Script as Part}
use Rattle.script_plans.specs.Plans.{Plan}
use Rattle.script_plans.specs.Sound.{IsSound}
use Rattle.race_records.specs.Merged.{Book, lines_in}
use Rattle.race_records.specs.Known.{AreScripts, AreOfPlan}
use Rattle.race_settling.specs.Casting.{IsCast}
use Rattle.race_settling.proofs.CastLaws.{plan-roles, plan-turns, plan-falls, plan-plays}
use Rattle.race_settling.specs.Races.{IsOfPlan}

pub served-plan : (p : Plan) (c : Config) (text : List ℕ) (book : Book) (ss : List Part) → IsOfPlan p c text book ss → IsServable c
served-plan p c text book ss is = subst IsServable is.config (served p.text p.config is.sound.text.config)

-- actors that are cast of a sound plan's scripts are of the plan
pub cast-plan : (p : Plan) (ss : List Part) (book : Book) → IsSound p → IsCast ss p.scripts → book ≡ map lines_in p.scripts → IsOfPlan p p.config p.text book ss
cast-plan p ss book sound cast is = record {
  sound = sound;
  config = refl;
  text_ = refl;
  book_ = sym is;
  scripts = subst (AreScripts p) (sym cast.2) (plan-roles p sound cast.0 cast.1);
  turns = subst (AreOfPlan p) (sym cast.2) (plan-turns p sound cast.0 cast.1);
  falls = subst (λ l. AreFalling 33 (map (λ (s : Part). s.actor) l)) (sym cast.2) (plan-falls p sound cast.0 cast.1);
  plays = subst (All (λ (s : Part). CanPlay p.config s)) (sym cast.2) (plan-plays p sound cast.0 cast.1);
}
