-- What comes of scripts that race: one history, and of each script the answers to its steps.
use Rattle.std.specs.Prelude.{◌≡◌, ◌≤◌, ℕ, ◌==◌, List, [], ◌∷◌, length, take, cond}
use Rattle.sv_base.specs.declared.config.Config.{Config}
use Rattle.bay_model.specs.Answers.{History}
use Rattle.bay_histories.specs.Rules.{Rules}
use Rattle.bay_histories.specs.Histories.{IsEarlier, by, IsLegal, IsShuffle}
use Rattle.actor_scripts.specs.declared.script.Script.{Script}
use Rattle.actor_scripts.specs.declared.part.Part.{Part}
use Rattle.actor_scripts.specs.Scripts.{turns_by, replies_of}
use Rattle.actor_scripts.specs.Stops.{StopsAt}

-- the numbers of actors: 0 is the caller's own
abbrev pub actors : ℕ
actors = 33

-- of actor k its steps that were answered: a beginning of its script
abbrev pub beginnings : List Script → List Part → ℕ → History
beginnings (s ∷ ss) (p ∷ ps) k = cond (s.actor == k) (turns_by k (take (length p.replies.items) s.steps.items)) (beginnings ss ps k)
beginnings _ _ k = []

-- What came of a script in a history: the answers to its first steps. It is all of the script, or the next step was refused at a
-- moment of this history, after the steps that were made by then.
pub record IsPart (rules : Rules) (c : Config) (h : History) (s : Script) (p : Part) : Type 0 where
  pub actor : p.actor ≡ s.actor
  pub few : length p.replies.items ≤ length s.steps.items
  pub told : p.replies.items ≡ replies_of rules c p.actor h
  pub before : History
  pub earlier : IsEarlier before h
  -- by then the actor had made all that it made
  pub own : by s.actor before ≡ turns_by s.actor (take (length p.replies.items) s.steps.items)
  pub stops : StopsAt rules c s.actor s.steps.items (length p.replies.items) p.fault before

abbrev pub AreParts : Rules → Config → History → List Script → List Part → Type 0
AreParts rules c h [] [] = Unit {0}
AreParts rules c h (s ∷ ss) (p ∷ ps) = IsPart rules c h s p × AreParts rules c h ss ps
AreParts rules c h _ _ = ⊥

-- the history of scripts that raced: of accepted steps, a shuffle of beginnings of the scripts
pub record IsRaced (rules : Rules) (c : Config) (scripts : List Script) (parts : List Part) (h : History) : Type 0 where
  pub legal : IsLegal rules c h
  pub shuffle : IsShuffle actors (beginnings scripts parts) h
  pub parts_ : AreParts rules c h scripts parts
