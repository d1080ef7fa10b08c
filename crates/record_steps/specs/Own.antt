-- A step that an association makes for itself, as its own opener and writer: it opens where it isn't open, and writes, asks
-- and is lost where it is. A step of the process is of no association.
use Rattle.std.specs.Prelude.{◌≡◌, ℕ, Bool, true, false}
use Rattle.std.specs.Int.{to_be_bytes, w32}
use Rattle.bay_model.specs.declared.step.Step.{Step}
use Rattle.bay_model.specs.declared.step.Step.TheVariants as steps
use Rattle.object_model.specs.Fits.{fits}
use Rattle.sv_base.specs.declared.config.Config.{Config}
use Rattle.sv_base.specs.declared.numbers.AssocNo.{AssocNo}
use Rattle.record_steps.specs.declared.heard.Heard.{Heard}
use Rattle.record_steps.specs.declared.heard.Heard.TheVariants.{Tells, Makes}

-- an association opens for itself, with this greatest size of a PDU, and its address is its number in four octets
abbrev pub own_opening : AssocNo → ℕ → Step
own_opening a size = steps.Open a size (record { 0 = a.0 }) (to_be_bytes w32 a.0)

abbrev pub IsOwn : (ℕ → Bool) → ℕ → Step → Type 0
IsOwn is_open actor (steps.Open a size writer owner) = (is_open a.0 ≡ false) × (actor ≡ a.0) × (writer.0 ≡ a.0)
IsOwn is_open actor (steps.Ask a r) = (is_open a.0 ≡ true) × (actor ≡ a.0)
IsOwn is_open actor (steps.Write a b comp v) = (is_open a.0 ≡ true) × (actor ≡ a.0)
IsOwn is_open actor (steps.Take a) = actor ≡ a.0
IsOwn is_open actor (steps.Lost a) = (is_open a.0 ≡ true) × (actor ≡ a.0)
IsOwn is_open actor (steps.Value settings) = Unit {0}
IsOwn is_open actor (steps.Done k well) = Unit {0}
IsOwn is_open actor (steps.Block k on) = Unit {0}
IsOwn is_open actor steps.Tick = Unit {0}

-- a part of what a piece comes to: its step is one that fits the configuration, and that an association of a stream makes
abbrev pub IsOfStream : Step → Type 0
IsOfStream (steps.Open a size writer owner) = Unit {0}
IsOfStream (steps.Ask a r) = Unit {0}
IsOfStream (steps.Lost a) = Unit {0}
IsOfStream _ = ⊥

abbrev pub IsFittingPart : Config → Heard → Type 0
IsFittingPart c (Tells text) = Unit {0}
IsFittingPart c (Makes actor step) = (fits c step ≡ true) × IsOfStream step
