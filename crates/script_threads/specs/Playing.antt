-- A script that an actor runs with its pass.
use Rattle.std.specs.Prelude.{◌≡◌, ◌≢◌, ◌≤◌, ℕ, List, ◌++◌, length, take}
use Rattle.bay_histories.specs.Rules.{Rules}
use Rattle.bay_histories.specs.Histories.{by, IsLegal}
use Rattle.history_lock.specs.Passes.{Site, Known, HasNumber, IsSamePass}
use Rattle.actor_scripts.specs.declared.script.TimedStep.{TimedStep}
use Rattle.actor_scripts.specs.declared.script.Script.{Script}
use Rattle.actor_scripts.specs.declared.part.Reply.{Reply}
use Rattle.script_threads.specs.declared.job.Played.{Played}
use Rattle.actor_scripts.specs.Scripts.{turns_onto, replies_of}
use Rattle.actor_scripts.specs.Stops.{StopsAt}

-- a pass of this history
abbrev pub IsOf : Site → Known → Type 0
IsOf h p = (p.table ≡ h.table) × (p.config ≡ h.config)

-- the pass p has become q: the actor made the steps that were answered, in order, and no other
pub record Plays (rules : Rules) (p : Known) (steps : List TimedStep) (replies : List Reply) (q : Known) : Type 0 where
  pub same : IsSamePass p q
  pub few : length replies ≤ length steps
  pub own : by p.first q.seen ≡ turns_onto p.first (take (length replies) steps) (by p.first p.seen)
  pub others : (k : ℕ) → HasNumber p k → k ≢ p.first → by k q.seen ≡ by k p.seen
  pub told : replies_of rules p.config p.first q.seen ≡ replies_of rules p.config p.first p.seen ++ replies
  pub legal : IsLegal rules p.config p.seen → IsLegal rules p.config q.seen

-- what came of a script that an actor ran with the pass p
pub record Went {M : Type 0} (rules : Rules) (p : Known) (script : Script) (played : Played M) : Type 0 where
  pub actor : played.part.actor ≡ script.actor
  pub plays : Plays rules p script.steps.items played.part.replies.items played.pass
  pub stops : StopsAt rules p.config p.first script.steps.items (length played.part.replies.items) played.part.fault played.pass.seen
