-- What came of a race where all turns went.
use Rattle.std.proofs.Common.{◌≡◌, ◌==◌, ℕ, true, cond, List, [], ◌∷◌, length, take, refl, ap, ◌∙◌, arith}
use Rattle.std.specs.Prelude.{Option, None, Some}
use Rattle.std.proofs.lemmas.Bool.{and_parts}
use Rattle.std.proofs.lemmas.List.{take_all}
use Rattle.std.proofs.lemmas.List.Elements.{All-nil, All-cons}
use Rattle.sv_base.specs.declared.config.Config.{Config}
use Rattle.bay_model.specs.Answers.{History}
use Rattle.bay_histories.specs.declared.fault.StepFault.{StepFault}
use Rattle.bay_histories.specs.Rules.{bay_rules}
use Rattle.script_plans.specs.Plans.{Plan}
use Rattle.actor_scripts.specs.Merging.{AreOf}
use Rattle.actor_scripts.specs.Stops.{StopsAt}
use Rattle.actor_scripts.specs.Raced.{beginnings, AreParts, IsRaced}
use Rattle.actor_scripts.specs.Scripts.{turns_by, replies_of}
use Rattle.actor_scripts.specs.declared.part.Part.{Part as Given}
use Rattle.actor_scripts.specs.declared.script.Script.{Script as Part}
use Rattle.actor_scripts.specs.declared.script.TimedStep.{TimedStep}
use Rattle.race_records.specs.Known.{turns_among, AreOfPlan}
use Rattle.race_settling.specs.Settled.{IsMade}
use Rattle.race_records.specs.Verdicts.{went, all_went}

stops-whole : (c : Config) (k : ℕ) (steps : List TimedStep) (n : ℕ) (fault : Option StepFault) (seen : History) → went fault ≡ true → StopsAt bay_rules c k steps n fault seen → take n steps ≡ steps
stops-whole c k steps n None seen all is = take_all n steps (omega (arith, is))
stops-whole c k steps n (Some f) seen all is = absurd (cc all)

-- each actor made all of its script
whole-parts : (c : Config) (h : History) (ss : List Part) (ps : List Given) (k : ℕ) → AreParts bay_rules c h ss ps → all_went ps ≡ true → beginnings ss ps k ≡ turns_among ss k
whole-parts c h [] [] k are all = refl
whole-parts c h [] (p ∷ ps) k are all = absurd are
whole-parts c h (s ∷ ss) [] k are all = absurd are
whole-parts c h (s ∷ ss) (p ∷ ps) k are all =
    let both = and_parts (went p.fault) (all_went ps) all in
    ap (λ steps. cond (s.actor == k) (turns_by k steps) (beginnings ss ps k)) (stops-whole c s.actor s.steps.items (length p.replies.items) p.fault are.0.before both.0 are.0.stops)
    ∙ ap (cond (s.actor == k) (turns_by k s.steps.items)) (whole-parts c h ss ps k are.1 both.1)

pub parts-of : (c : Config) (h : History) (ss : List Part) (ps : List Given) → AreParts bay_rules c h ss ps → AreOf bay_rules c h ps
parts-of c h [] [] are = All-nil (λ (p : Given). p.replies.items ≡ replies_of bay_rules c p.actor h)
parts-of c h [] (p ∷ ps) are = absurd are
parts-of c h (s ∷ ss) [] are = absurd are
parts-of c h (s ∷ ss) (p ∷ ps) are = All-cons (λ (p : Given). p.replies.items ≡ replies_of bay_rules c p.actor h) p ps are.0.told (parts-of c h ss ps are.1)

-- the history is a shuffle of the whole scripts of the plan
pub made-whole : (p : Plan) (ss : List Part) (ps : List Given) (h : History) → AreOfPlan p ss → IsRaced bay_rules p.config ss ps h → all_went ps ≡ true → IsMade p h
made-whole p ss ps h are raced all = (
  raced.legal,
  ((λ k low. raced.shuffle.0 k low ∙ (whole-parts p.config h ss ps k raced.parts_ all ∙ are k)), raced.shuffle.1),
)
