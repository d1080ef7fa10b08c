-- What the events of a point make of the blocks (IEC 61850-7-2, BRCB attribute BufTm): each takes in the members of its data set that
-- the point is an event of, where there are any.
use Rattle.std.specs.Prelude.{◌≤◌, ℕ, List, map, length}
use Rattle.std.specs.List.{All}
use Rattle.bay_model.specs.declared.flags.Change.{Change}
use Rattle.bay_model.specs.declared.note.Mention.{Mention}
use Rattle.bay_model.specs.declared.tables.MemberShape.{MemberShape}
use Rattle.bay_model.specs.declared.tables.NodeRow.{NodeRow}
use Rattle.data_sets.specs.Books.{Book}
use Rattle.brcb_state.specs.Components.{trg_of}
use Rattle.trigger_core.specs.Noted.{noted}
use Rattle.value_store.specs.Stored.{Stored}
use Rattle.report_block.specs.declared.block.ReportBlock.{ReportBlock}
use Rattle.report_block.specs.EntryOctets.{IsWritable}
use Rattle.report_block.specs.Events.{after_noting, pieces_of}
use Rattle.block_watch.specs.Watched.{IsLent, members_in}

-- the members of a data set of these shapes that the changes are events of, and why
abbrev pub mentions_of : List Change → List MemberShape → ReportBlock → List Mention
mentions_of changes shapes part = noted changes (trg_of part.block.options.trg_ops) 1 shapes

-- after the changes, which left these values, at the moment and the number of their step
abbrev pub after_event : List NodeRow → Book → List Stored → List Change → ℕ → ℕ → ReportBlock → ReportBlock
after_event rows book stored changes moment step part = after_noting moment step (pieces_of stored (members_in rows book part) (mentions_of changes (members_in rows book part) part)) part

abbrev pub after_events : List NodeRow → Book → List Stored → List Change → ℕ → ℕ → List ReportBlock → List ReportBlock
after_events rows book stored changes moment step parts = map (after_event rows book stored changes moment step) parts

-- the members of the data set are there and few, the Data of each can be written, and there is memory to gather them
pub record IsReady (rows : List NodeRow) (book : Book) (stored : List Stored) (part : ReportBlock) : Type 0 where
  pub lent : IsLent rows book part
  pub few : length (members_in rows book part) ≤ 256
  pub writable : All (IsWritable stored) (members_in rows book part)
  pub within : length (members_in rows book part) ≤ part.window.members
  pub gathers : part.window.members ≤ 256

abbrev pub AreReady : List NodeRow → Book → List Stored → List ReportBlock → Type 0
AreReady rows book stored parts = All (IsReady rows book stored) parts
