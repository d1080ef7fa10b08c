-- What finds the blocks that the process touches: the members of all data sets by their attributes, the trigger options of
-- each block, and memory for the notes of a point (IEC 61850-7-2, DATA-SET, TrgOps and ReasonForInclusion).
use Rattle.std.specs.Prelude.{◌≡◌, ◌<◌, ◌≤◌, ℕ, List, Some, length, map, slice_get}
use Rattle.std.specs.List.{All}
use Rattle.sv_base.specs.declared.components.Comp.{Comp}
use Rattle.sv_base.specs.declared.components.Comp.TheVariants as comps
use Rattle.bay_model.specs.declared.flags.Trg.{Trg}
use Rattle.bay_model.specs.declared.note.Mention.{Mention}
use Rattle.bay_model.specs.declared.tables.MemberShape.{MemberShape}
use Rattle.bay_model.specs.declared.tables.NodeRow.{NodeRow}
use Rattle.set_view.specs.Shapes.{AreThere, shapes_of}
use Rattle.data_sets.specs.Books.{Book, IsSet, nodes_in, set_at}
use Rattle.brcb_state.specs.Components.{trg_of}
use Rattle.value_store.specs.Stored.{Stored}
use Rattle.touch_index.specs.Indexed.{Indexed, AreAmong, block_at, pairs, with_members}
use Rattle.touch_index.specs.Gathered.{IsSetOf}
use Rattle.touch_index.specs.Gathering.{Gathered, note_at, AreEmpty}
use Rattle.report_block.specs.declared.block.ReportBlock.{ReportBlock}
use Rattle.block_watch.specs.declared.watch.Watch.{Watch}
use Rattle.report_block.specs.EntryOctets.{IsKeepable}
use Rattle.report_block.specs.Events.{AreInOrder}

-- the shapes of the members of a data set by its number, and of a block's data set
abbrev pub members_at : List NodeRow → Book → ℕ → List MemberShape
members_at rows book k = shapes_of rows (set_at book k).nodes

abbrev pub members_in : List NodeRow → Book → ReportBlock → List MemberShape
members_in rows book part = shapes_of rows (nodes_in book part.set)

-- the members of each data set are nodes that have rows
abbrev pub AreLent : List NodeRow → Book → Type 0
AreLent rows book = (k : ℕ) → k < length book.sets → AreThere (length rows) (set_at book k).nodes

-- the data set of the part is in the book, and its members are nodes that have rows
pub record IsLent (rows : List NodeRow) (book : Book) (part : ReportBlock) : Type 0 where
  pub set : IsSet book part.set
  pub there : AreThere (length rows) (nodes_in book part.set)

-- a part whose data set an index of n attributes can hold
pub record IsWatchable (rows : List NodeRow) (book : Book) (n : ℕ) (part : ReportBlock) : Type 0 where
  pub lent : IsLent rows book part
  pub few : length (members_in rows book part) ≤ 256
  pub among : AreAmong n (members_in rows book part)

-- the index has the members of each block's data set, and memory for those of any
pub record IsIndexed (rows : List NodeRow) (book : Book) (n : ℕ) (parts : List ReportBlock) (x : Indexed) : Type 0 where
  pub attrs : x.attrs ≡ n
  pub count : length x.blocks ≡ length parts
  pub touches : (b : ℕ) (part : ReportBlock) → slice_get parts b ≡ Some part → IsSetOf x.blocks b (members_in rows book part)
  pub roomy : (b k : ℕ) → b < length x.blocks → k < length book.sets → pairs (members_at rows book k) ≤ (block_at x.blocks b).room

-- the index has what it had, in as much capacity at least
pub record IsRoomier (old new : Indexed) : Type 0 where
  pub attrs : new.attrs ≡ old.attrs
  pub count : length new.blocks ≡ length old.blocks
  pub items : (b : ℕ) → (block_at new.blocks b).items ≡ (block_at old.blocks b).items
  pub rooms : (b : ℕ) → (block_at old.blocks b).room ≤ (block_at new.blocks b).room

-- the trigger options of each block
abbrev pub options_in : List ReportBlock → List Trg
options_in parts = map (λ (p : ReportBlock). trg_of p.block.options.trg_ops) parts

-- n notes, none with a member, each with capacity for a data set
pub record AreBlank (n : ℕ) (g : Gathered) : Type 0 where
  pub count : length g.notes ≡ n
  pub empty : AreEmpty g.notes
  pub rooms : (b : ℕ) → b < n → (note_at g.notes b).room ≡ 256

pub record IsWatching (rows : List NodeRow) (book : Book) (n : ℕ) (parts : List ReportBlock) (w : Watch) : Type 0 where
  pub index : IsIndexed rows book n parts w.index
  pub options : w.options.items ≡ options_in parts
  pub notes : AreBlank (length parts) w.notes

-- the data set of a part that was written, block b, fits into the memory that the index has for it
pub record IsFollowed (rows : List NodeRow) (book : Book) (w : Watch) (b : ℕ) (part : ReportBlock) : Type 0 where
  pub lent : IsLent rows book part
  pub indexed : b < length w.index.blocks
  pub optional : b < length w.options.items
  pub room : pairs (members_in rows book part) ≤ (block_at w.index.blocks b).room
  pub few : length (members_in rows book part) ≤ 256
  pub among : AreAmong w.index.attrs (members_in rows book part)

-- the index after a write of a component of block b, whose data set has these members by then
abbrev pub index_after : Comp → ℕ → List MemberShape → Indexed → Indexed
index_after comps.DatSet b ms x = record { attrs = x.attrs; blocks = with_members b ms x.blocks }
index_after _ b ms x = x

-- a note whose members are of the data set of the part, in its order, and can be written and gathered
pub record IsNoteOf (rows : List NodeRow) (book : Book) (stored : List Stored) (part : ReportBlock) (note : List Mention) : Type 0 where
  pub lent : IsLent rows book part
  pub members : All (IsKeepable stored (members_in rows book part)) note
  pub few : length note ≤ 256
  pub order : AreInOrder 0 note
  pub within : length (members_in rows book part) ≤ part.window.members
  pub gathers : part.window.members ≤ 256
