-- Passes that are joined after a race.
use Rattle.std.specs.Prelude.{◌≡◌, ◌≤◌, ℕ, List, [], ◌∷◌}
use Rattle.bay_model.specs.Answers.{History}
use Rattle.bay_histories.specs.Histories.{IsEarlier, by}
use Rattle.history_lock.specs.Passes.{Known, HasNumber}
use Rattle.actor_scripts.specs.Raced.{actors}
use Rattle.script_threads.specs.declared.job.Played.{Played}

-- no step is of another number
abbrev pub HasNoOthers : History → Type 0
HasNoOthers h = (k : ℕ) → actors ≤ k → by k h ≡ []

-- a pass that has joined p
pub record Gathers (p q : Known) : Type 0 where
  pub earlier : IsEarlier p.seen q.seen
  pub numbers : (k : ℕ) → HasNumber p k → HasNumber q k × (by k q.seen ≡ by k p.seen)

-- all passes were joined to q
abbrev pub AllGathered : {M : Type 0} → Known → List (Played M) → Type 0
AllGathered q [] = Unit {0}
AllGathered q (d ∷ ds) = Gathers d.pass q × AllGathered q ds
