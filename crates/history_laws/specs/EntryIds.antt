-- What comes of the write of an EntryID (IEC 61850-7-2, BRCB attribute EntryID).
use Rattle.std.specs.Prelude.{◌≡◌, ◌||◌, ℕ, List, length, is_some, if◌then◌else◌}
use Rattle.sv_base.specs.declared.value.Value.TheVariants as kinds
use Rattle.sv_base.specs.declared.components.Comp.TheVariants.{EntryID}
use Rattle.bay_model.specs.Model.{Model}
use Rattle.bay_model.specs.Points.{wrote, Past}
use Rattle.bay_model.specs.Entries.{selected}
use Rattle.bay_model.specs.Retained.{front}
use Rattle.bay_model.specs.Blocks.{enabler, entry_id}
use Rattle.bay_model.specs.Reservations.{is_reserved_for_another}
use Rattle.bay_model.specs.BlockWrites.{is_retained_or_zero, write_component}
use Rattle.bay_model.specs.Outcomes.{Outcome, did, refused}
use Rattle.bay_model.specs.declared.access_errors.TheConstants.{OBJECT_VALUE_INVALID, TEMPORARILY_UNAVAILABLE}

-- what names zero or a retained entry is written, else it is invalid
abbrev pub named : Model → ℕ → ℕ → List ℕ → Past → Outcome
named c a b octets past =
    if is_retained_or_zero (front c b past) (length (selected c b past)) (entry_id octets) then did (wrote a b EntryID (kinds.Octets octets)) else refused OBJECT_VALUE_INVALID

abbrev pub EntryIdsAreNamed : Type 0
EntryIdsAreNamed = (c : Model) (a b : ℕ) (octets : List ℕ) (past : Past) → length octets ≡ 8
    → write_component c a b EntryID (kinds.Octets octets) past
    ≡ (if is_reserved_for_another b a past || is_some (enabler b past) then refused TEMPORARILY_UNAVAILABLE else named c a b octets past)
