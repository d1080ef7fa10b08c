-- What came of a race.
use Rattle.std.specs.Prelude.{ℕ, min, Bool, true, false, List, [], ◌∷◌, ◌&&◌, ◌||◌, length, Option, None, Some, slice_get, slice_index_or}
use Rattle.std.specs.Option.{option_map}
use Rattle.bay_histories.specs.declared.fault.StepFault.{StepFault}
use Rattle.bay_histories.specs.declared.fault.StepFault.TheVariants as faults
use Rattle.script_plans.specs.declared.line.StepLine.{StepLine}
use Rattle.actor_scripts.specs.declared.part.Part.{Part}
use Rattle.race_records.specs.Merged.{Book}

-- the number of the line of an actor after that many
abbrev pub number_at : Book → ℕ → ℕ → Option ℕ
number_at book k n = option_map (λ (l : StepLine). l.number) (slice_get (slice_index_or book k []) n)

-- the line whose turn met a full queue, after those that went
abbrev pub full_by : Book → Part → Option StepFault → Option ℕ
full_by book part (Some (faults.QueueFull a)) = number_at book part.actor (length part.replies.items)
full_by book part _ = None

abbrev pub full_line : Book → Part → Option ℕ
full_line book part = full_by book part part.fault

abbrev pub lesser : Option ℕ → Option ℕ → Option ℕ
lesser (Some n) (Some m) = Some (min n m)
lesser (Some n) None = Some n
lesser None other = other

-- the lowest line whose turn met a full queue
abbrev pub lowest_full : Book → List Part → Option ℕ
lowest_full book [] = None
lowest_full book (part ∷ parts) = lesser (full_line book part) (lowest_full book parts)

abbrev pub went : Option StepFault → Bool
went None = true
went (Some fault) = false

-- all turns went
abbrev pub all_went : List Part → Bool
all_went [] = true
all_went (part ∷ parts) = went part.fault && all_went parts

abbrev pub wants_memory : Option StepFault → Bool
wants_memory (Some faults.Memory) = true
wants_memory _ = false

-- a turn was refused when out of memory
abbrev pub lacks_memory : List Part → Bool
lacks_memory [] = false
lacks_memory (part ∷ parts) = wants_memory part.fault || lacks_memory parts
