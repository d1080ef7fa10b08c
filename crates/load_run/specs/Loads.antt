-- What a loading stands for, and what the lines of a record make of it. Where lines are looked back on, the newest is the first.
use Rattle.std.specs.Prelude.{◌≡◌, ◌≤◌, ℕ, suc, true, List, ◌∷◌, Ok}
use Rattle.sv_base.specs.declared.config.Config.{Config}
use Rattle.bay_model.specs.Named.{configured_model}
use Rattle.bay_model.specs.Answers.{History}
use Rattle.bay_model.specs.declared.step.Step.{Step}
use Rattle.object_model.specs.Fits.{fits}
use Rattle.bay_core.specs.Standing.{StandsFor}
use Rattle.run_record.specs.Judging.{line_at}
use Rattle.run_record.specs.declared.line.RecLine.{RecLine}
use Rattle.record_steps.specs.Forms.{Form, Stands}
use Rattle.record_steps.specs.Formed.{form_in}
use Rattle.record_steps.specs.Told.{Told}
use Rattle.record_steps.specs.declared.telling.Told as told_as
use Rattle.record_steps.specs.declared.telling.Told.TheVariants as tolds
use Rattle.record_outcome.specs.Histories.{Part, form_at, moment_after, moment_of, parts_in, steps_of}
use Rattle.record_outcome.specs.Texts.{turns_in}
use Rattle.load_run.specs.Summaries.{summary_of}
use Rattle.load_run.specs.Counting.{IsWithin}
use Rattle.load_run.specs.declared.loading.Loading.{Loading}

-- the bay stands for this history, whose summary is the one so far
abbrev pub Carries : Loading → Config → History → Type 0
Carries l c h = StandsFor l.bay c h × (l.summary ≡ summary_of (configured_model c) h)

-- and that is the history of these lines
pub record Loads (l : Loading) (c : Config) (before : List (List ℕ)) : Type 0 where
  pub moment : l.moment ≡ moment_of c before
  pub carries : Carries l c (turns_in (steps_of c before))
  pub forms : (a : ℕ) → Stands (form_in l.forms a) (form_at a before)

-- n steps at most were applied
abbrev pub IsFew : Loading → ℕ → Type 0
IsFew l n = (l.bay.steps ≤ n) × IsWithin l.summary n

abbrev pub OneMore : Loading → Loading → Type 0
OneMore old new = (n : ℕ) → IsFew old n → IsFew new (suc n)

-- what a line told is done: its steps are applied, after those of the lines before it
pub record Moves (old new : Loading) (t : Told) : Type 0 where
  pub moment : new.moment ≡ moment_after t old.moment
  pub forms : new.forms ≡ old.forms
  pub carries : (c : Config) (form : Form) (before : List (List Part)) → Carries old c (turns_in before) → Carries new c (turns_in (parts_in old.moment form t ∷ before))
  pub few : OneMore old new

-- a line is applied after those before it
pub record Follows (old new : Loading) (line : List ℕ) : Type 0 where
  pub loads : (c : Config) (before : List (List ℕ)) → Loads old c before → Loads new c (line ∷ before)
  pub few : OneMore old new

-- any that says this
abbrev pub FollowsAs : Loading → Loading → RecLine → Type 0
FollowsAs old new said = (line : List ℕ) → line_at line ≡ Ok said → Follows old new line

-- the step in a slot, where one is told, fits the configuration
abbrev pub IsFitting : Config → told_as.Told → Step → Type 0
IsFitting c (tolds.Step actor) slot = fits c slot ≡ true
IsFitting c _ slot = Unit {0}
