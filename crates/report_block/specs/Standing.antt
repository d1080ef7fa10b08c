-- What a report block stands for, up to the last point of a past: its attributes, its buffer, what it has gathered, and the
-- origin of its integrity periods (IEC 61850-7-2, BRCB).
use Rattle.std.specs.Prelude.{◌≡◌, ◌≤◌, ℕ, false, ◌==◌, List, [], ◌∷◌, length, Option, None, Some, slice_get}
use Rattle.std.specs.List.{All}
use Rattle.sv_base.specs.Data.{data_of}
use Rattle.sv_base.specs.declared.value.Value.{Value}
use Rattle.bay_model.specs.Model.{Model}
use Rattle.bay_model.specs.Points.{Past}
use Rattle.bay_model.specs.Parameters.{parameters_at}
use Rattle.bay_model.specs.Breaks.{origin}
use Rattle.bay_model.specs.Groups.{Event, open_group}
use Rattle.bay_model.specs.Notes.{Kept}
use Rattle.bay_model.specs.Entries.{Entry, selected}
use Rattle.brcb_state.specs.Standing.{Stands as AttributesStand}
use Rattle.entry_ring.specs.Standing.{Holds}
use Rattle.window_core.specs.Standing.{Stands as WindowStands}
use Rattle.report_block.specs.declared.block.ReportBlock.{ReportBlock}

-- the octets of a member are one Data of at most 500 octets, and its number has two octets
pub record IsMemberKept (k : Kept) : Type 0 where
  pub number : (1 ≤ k.number) × (k.number ≤ 256)
  pub value : Value
  pub is_data : k.octets ≡ data_of value
  pub short : (1 ≤ length k.octets) × (length k.octets ≤ 500)

abbrev pub AreKeptMembers : List Kept → Type 0
AreKeptMembers ks = All IsMemberKept ks

abbrev pub IsReadable : Entry → Type 0
IsReadable e = AreKeptMembers e.members

abbrev pub IsReadableEvent : Event → Type 0
IsReadableEvent e = AreKeptMembers e.note

-- the origin of the integrity periods; none before the first point
abbrev pub origin_of : Model → ℕ → Past → Option ℕ
origin_of c b [] = None
origin_of c b (p ∷ before) = Some (origin c b (p ∷ before))

-- Without an integrity period its origin is of no account.
pub record Stands (part : ReportBlock) (c : Model) (b : ℕ) (past : Past) : Type 0 where
  pub block : AttributesStand part.block c b past
  pub ring : Holds part.ring c b past
  pub window : WindowStands part.window c b past
  pub origin : ((parameters_at c b past).intg_pd == 0) ≡ false → part.origin ≡ origin_of c b past
  pub readable : All IsReadable (selected c b past)
  pub group : All IsReadableEvent (open_group c b past)

-- blocks in their order
abbrev pub BlocksStand : Model → Past → List ReportBlock → Type 0
BlocksStand c past parts = (b : ℕ) (part : ReportBlock) → slice_get parts b ≡ Some part → Stands part c b past
