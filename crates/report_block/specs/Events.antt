-- The event of a note: its entry, with BufTm 0, and what is gathered else (IEC 61850-7-2, BRCB attribute BufTm).
use Rattle.std.specs.Prelude.{◌<◌, ◌≤◌, ◌*◌, ℕ, List, [], ◌∷◌, map}
use Rattle.bay_model.specs.declared.note.Mention.{Mention}
use Rattle.bay_model.specs.declared.tables.MemberShape.{MemberShape}
use Rattle.entry_ring.specs.Held.{Held}
use Rattle.entry_ring.specs.Ringed.{after_entry}
use Rattle.value_store.specs.Stored.{Stored}
use Rattle.window_core.specs.Pieces.{Piece}
use Rattle.window_core.specs.Standing.{body_of, piece_of}
use Rattle.report_block.specs.declared.block.ReportBlock.{ReportBlock}
use Rattle.report_block.specs.declared.events.EventRoom.{EventRoom}
use Rattle.report_block.specs.Coming.{after_bodies, after_note, closed_at_note}
use Rattle.report_block.specs.EntryOctets.{kept_of, note_octets}

-- the members of a note, with what is kept of each
abbrev pub pieces_of : List Stored → List MemberShape → List Mention → List Piece
pieces_of stored shapes note = map (λ (m : Mention). piece_of (kept_of stored shapes m)) note

-- memory for what is kept of an event of n members: of one member, and of each
abbrev pub HasRoom : ℕ → EventRoom → Type 0
HasRoom n r = (504 ≤ r.one.room) × (n ≤ r.each.members) × (504 * n ≤ r.each.room)

-- the members of a note stand in the order of the data set, above a number
abbrev pub AreInOrder : ℕ → List Mention → Type 0
AreInOrder above [] = Unit {0}
AreInOrder above (m ∷ ms) = (above < m.member.0) × AreInOrder m.member.0 ms

-- a block after an event of these members
abbrev pub after_noting : ℕ → ℕ → List Piece → ReportBlock → ReportBlock
after_noting now step ps part = record part { ring = after_bodies part.ring (body_of step (closed_at_note now ps part.window)); window = after_note now ps part.window }

-- its entry
abbrev pub entry_of : List Stored → List MemberShape → ℕ → ℕ → List Mention → Held
entry_of stored shapes now step note = record { moment = now; step = step; kept = note_octets stored shapes note }

-- with the entry of a note of a data set of these shapes, where it has a member
abbrev pub with_note : List Stored → List MemberShape → ℕ → ℕ → List Mention → ReportBlock → ReportBlock
with_note stored shapes now step [] part = part
with_note stored shapes now step (m ∷ ms) part = record part { ring = after_entry part.ring (entry_of stored shapes now step (m ∷ ms)) }
