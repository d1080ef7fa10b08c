-- What a bay under play stands for, and what its steps come to.
use Rattle.std.specs.Prelude.{◌≡◌, ℕ, true, List, [], ◌++◌, Option, None, Some, Ok}
use Rattle.std.specs.List.{AllByRecursion}
use Rattle.sv_base.specs.declared.config.Config.{Config}
use Rattle.bay_model.specs.Named.{configured_model}
use Rattle.bay_model.specs.Acceptance.{fault}
use Rattle.bay_model.specs.declared.step.Step.{Step}
use Rattle.run_record.specs.declared.line.RecLine.{RecLine}
use Rattle.bay_core.specs.Standing.{StandsFor}
use Rattle.object_model.specs.Fits.{fits}
use Rattle.stream_lines.specs.declared.shape.Shape.{Shape}
use Rattle.record_steps.specs.Forms.{Stands}
use Rattle.record_steps.specs.Streams.{made}
use Rattle.record_steps.specs.Telling.{telling}
use Rattle.record_steps.specs.declared.heard.Heard.{Heard}
use Rattle.record_steps.specs.declared.heard.Heard.TheVariants.{Tells, Makes}
use Rattle.record_steps.specs.declared.telling.Told.{Told}
use Rattle.record_steps.specs.declared.telling.Told.TheVariants as tolds
use Rattle.record_outcome.specs.Played.{Played, turn_at}
use Rattle.record_outcome.specs.Moves.{playing, Move, goes, stops}
use Rattle.record_outcome.specs.Steps.{accepted, heard_on, played, told_at}
use Rattle.record_outcome.specs.Judgements.{IsJudgement}
use Rattle.record_steps.specs.Formed.{form_in}
use Rattle.record_session.specs.declared.playing.Playing.{Playing}
use Rattle.record_session.specs.declared.starting.Started.{Started}
use Rattle.record_session.specs.declared.starting.Started.TheVariants as starteds
use Rattle.record_outcome.specs.declared.status.Status.{Status}

-- the bay and the moment are those of what was applied, and what is kept of the associations stands for them
pub record Plays (p : Playing) (c : Config) (s : Played) : Type 0 where
  pub moment : p.moment ≡ s.moment
  pub stands : StandsFor p.bay c s.turns
  pub forms : (a : ℕ) → Stands (form_in p.forms a) (s.form a)

-- what is applied, or the status with which the reading stops, is what a line does
abbrev pub PlaysTo : Option Status → Playing → Move → List ℕ → List ℕ → Type 0
PlaysTo None new (goes (playing c s) text) before now = Plays new c s × (now ≡ before ++ text)
PlaysTo (Some status) new (stops told text) before now = (status ≡ told) × (now ≡ before ++ text)
PlaysTo _ _ _ _ _ = ⊥

abbrev pub PlaysOn : Option Status → Playing → Playing → (Config → Played → Move) → List ℕ → List ℕ → Type 0
PlaysOn status old new move before now = (c : Config) (s : Played) → Plays old c s → PlaysTo status new (move c s) before now

-- a step is accepted, and its answer is written in this shape; or it is refused, for the fault that it has
abbrev pub Performs : Option Status → Playing → Playing → ℕ → Shape → ℕ → Step → List ℕ → List ℕ → Type 0
Performs status old new number shape actor step before now =
    PlaysOn status old new (λ c s. accepted number c s shape (turn_at s actor step) (fault (configured_model c) s.turns (turn_at s actor step))) before now

-- a part of a piece is done: its text is written, or its step applied
abbrev pub DoesPart : Option Status → Playing → Playing → ℕ → Shape → Heard → List ℕ → List ℕ → Type 0
DoesPart None old new number shape (Tells text) before now = (new ≡ old) × (now ≡ before ++ text)
DoesPart (Some status) old new number shape (Tells text) before now = ⊥
DoesPart status old new number shape (Makes actor step) before now = Performs status old new number shape actor.0 step before now

-- and parts one after another, after nothing
abbrev pub DoesParts : Option Status → Playing → Playing → ℕ → Shape → List Heard → List ℕ → List ℕ → Type 0
DoesParts status old new number shape heard before now = PlaysOn status old new (λ c s. heard_on number c shape heard s []) before now

-- what a slot and a list hold is done, where it was told
abbrev pub PlaysSlot : Option Status → Playing → Playing → ℕ → Shape → Told → Step → List Heard → List ℕ → List ℕ → Type 0
PlaysSlot status old new number shape told slot heard before now = PlaysOn status old new (λ c s. played number c s shape (telling told slot heard)) before now

-- a step fits the configuration
abbrev pub IsReadyPart : Config → Heard → Type 0
IsReadyPart c (Tells text) = Unit {0}
IsReadyPart c (Makes actor step) = fits c step ≡ true

-- and so does the step in a slot, where one is told, and each of a list
abbrev pub IsReady : Config → Told → Step → List Heard → Type 0
IsReady c (tolds.Step actor) slot heard = fits c slot ≡ true
IsReady c tolds.Heard slot heard = AllByRecursion (IsReadyPart c) heard
IsReady c _ slot heard = Unit {0}

-- how many steps are told
abbrev pub most_of : Told → List Heard → ℕ
most_of tolds.Heard heard = made heard
most_of _ heard = 1

-- what a line does
abbrev pub plays_told : ℕ → RecLine → Config → Played → Move
plays_told number line c s = told_at number c s (Ok line)

abbrev pub Starts : Started → Move → Type 0
Starts (starteds.Plays p) (goes (playing c s) text) = Plays p c s × (text ≡ [])
Starts (starteds.Refused status) (stops told text) = (status ≡ told) × (text ≡ [])
Starts _ _ = ⊥

-- no step is made yet, or a refusal is one that the octets decide
abbrev pub IsSound : Started → Type 0
IsSound (starteds.Plays p) = p.bay.steps ≡ 0
IsSound (starteds.Refused status) = IsJudgement status
