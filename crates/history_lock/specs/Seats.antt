-- The seat of a pass: between its turns, and what a turn makes of it.
use Rattle.std.specs.Prelude.{ℕ, ◌≡◌, ◌-◌, ◌<◌, ◌^◌, List, [], ◌∷◌, ◌++◌, length, Result, MatchResult, Ok, Err, Option, Some, None}
use Rattle.atomic_table.specs.Seated.{TableId}
use Rattle.sv_base.specs.declared.config.Config.{Config}
use Rattle.bay_model.specs.declared.answer.Answer.{Answer}
use Rattle.bay_model.specs.Answers.{Turn, History}
use Rattle.bay_histories.specs.declared.fault.StepFault.{StepFault}
use Rattle.history_lock.specs.declared.view.Phase.TheVariants.{Idle}
use Rattle.bay_histories.specs.Rules.{Rules}
use Rattle.bay_histories.specs.Histories.{IsLegal, IsRefused}
use Rattle.history_lock.specs.Views.{view, moved_to}
use Rattle.history_lock.specs.Plays.{Seated, Others}
use Rattle.history_lock.specs.Passes.{Known}

-- a configuration with nothing in it
abbrev pub bare : Config
bare = record { vendor = []; model = []; revision = []; nodes = []; attrs = []; sets = []; blocks = []; controls = []; groups = [] }

abbrev pub config_or : Option Config → Config
config_or None = bare
config_or (Some c) = c

-- the ranges after the first
abbrev pub others_of : List (ℕ × ℕ) → List (ℕ × ℕ)
others_of [] = []
others_of (r ∷ rs) = rs

-- what the seat of a pass knows between its turns
abbrev pub at_rest : {M : Type 0} → Config → ℕ → ℕ → List (ℕ × ℕ) → ℕ → History → Seated M
at_rest config first count joined left seen = (view (Some config) ((first, count) ∷ joined) left Idle seen [] [], [])

-- what a contract sees of a pass with this seat
abbrev pub known : {M : Type 0} → TableId → Seated M → (first count left : ℕ) → Known
known table m first count left = record {
  table = table;
  config = config_or m.0.config;
  first = first;
  count = count;
  joined = others_of m.0.ranges;
  left = left;
  seen = m.0.seen;
}

-- the turn of a seat: others made the steps between, and then this seat made its own, or was refused it
abbrev pub Took : {M : Type 0} → Rules → Config → Seated M → Turn → Result (Answer × ℕ) (StepFault × ℕ) → Seated M → Type 0
Took rules config m t result n =
    MatchResult result
    (λ r. (between : History) × (n ≡ (moved_to m.0 (m.0.left - 1) Idle (t ∷ between ++ m.0.seen), [])) × Others m.0 between
    × (r.0 ≡ rules.answer config (between ++ m.0.seen) t) × (r.1 ≡ length (between ++ m.0.seen)) × (r.1 < 2 ^ 62)
    × IsLegal rules config (t ∷ between ++ m.0.seen))
    (λ f. (between : History) × (n ≡ (moved_to m.0 (m.0.left - 1) Idle (between ++ m.0.seen), [])) × Others m.0 between
    × IsRefused rules config (between ++ m.0.seen) t f.0 × (f.1 ≡ length (between ++ m.0.seen)) × IsLegal rules config (between ++ m.0.seen))

-- what the machine answered
abbrev pub step_result : Result (Answer × ℕ) (StepFault × ℕ) → Result Answer StepFault
step_result (Ok r) = Ok r.0
step_result (Err f) = Err f.0
