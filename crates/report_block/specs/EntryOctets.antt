-- The octets that a block keeps of an entry: of each member its number, its reasons and its MMS Data (IEC 61850-7-2,
-- BRCB, the buffered entry; the layout is this profile's own).
use Rattle.std.specs.Prelude.{◌≡◌, ◌<◌, ◌≤◌, ◌^◌, ◌-◌, ℕ, ◌+◌, List, length, slice_index_or}
use Rattle.std.specs.List.{flat_map}
use Rattle.sv_base.specs.Fields.{shape_of}
use Rattle.bay_model.specs.declared.note.Mention.{Mention}
use Rattle.bay_model.specs.declared.report.Reasons.{Reasons}
use Rattle.bay_model.specs.declared.tables.MemberShape.{MemberShape}
use Rattle.bay_model.specs.Notes.{Kept}
use Rattle.bay_model.specs.Retained.{weight_of, kept_octets_of}
use Rattle.set_view.specs.Shapes.{no_shape}
use Rattle.value_store.specs.Members.{leaves, member_octets}
use Rattle.value_store.specs.Stored.{Stored, AreStored}

-- the shape of a member of a data set, by its number from 1
abbrev pub shape_at : List MemberShape → ℕ → MemberShape
shape_at shapes number = slice_index_or shapes (number - 1) no_shape

-- a member that is mentioned, with the Data that the store gives it
abbrev pub kept_with : List Stored → MemberShape → Mention → Kept
kept_with all shape m = record { number = m.member.0; reasons = m.reasons; octets = member_octets all shape.kind shape.attrs }

abbrev pub kept_of : List Stored → List MemberShape → Mention → Kept
kept_of all shapes m = kept_with all (shape_at shapes m.member.0) m

-- the octets that a block keeps of a note
abbrev pub note_octets : List Stored → List MemberShape → List Mention → List ℕ
note_octets all shapes note = flat_map (λ m. kept_octets_of (kept_of all shapes m)) note

-- the reasons in one octet
abbrev pub weights : Reasons → ℕ
weights r = weight_of r.dchg 64 + weight_of r.qchg 32 + weight_of r.dupd 16 + weight_of r.intg 8 + weight_of r.gi 4

-- a shape whose Data can be written: its attributes are there, as many as its type has, and the Data is short
pub record IsWritable (all : List Stored) (shape : MemberShape) : Type 0 where
  pub stored : AreStored all shape.attrs
  pub whole : leaves (shape_of shape.kind) ≡ length shape.attrs
  pub small : length (member_octets all shape.kind shape.attrs) ≤ 500

-- a member of a data set of these shapes, whose number has two octets
pub record IsKeepable (all : List Stored) (shapes : List MemberShape) (m : Mention) : Type 0 where
  pub from_one : 0 < m.member.0
  pub there : m.member.0 ≤ length shapes
  pub few : m.member.0 < 2 ^ 16
  pub writable : IsWritable all (shape_at shapes m.member.0)
