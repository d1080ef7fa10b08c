-- Who has enabled a block, and where its reports stand (IEC 61850-7-2, BRCB attributes RptEna, EntryID and SqNum, and
-- BufOvfl of a report; the cursor is this profile's own).
use Rattle.std.specs.Prelude.{ℕ, suc, ◌%◌, max, min, Bool, false, not, ◌==◌, ◌&&◌, nat_le, nat_lt, List, [], ◌∷◌, length, Option, None, Some, is_none, is_some, if◌then◌else◌}
use Rattle.std.specs.Option.{option_map_or}
use Rattle.std.specs.Int.{from_be_bytes, w64}
use Rattle.sv_base.specs.declared.value.Value.{Value}
use Rattle.sv_base.specs.declared.value.Value.TheVariants as kinds
use Rattle.sv_base.specs.declared.components.Comp.{Comp}
use Rattle.sv_base.specs.declared.components.Comp.TheVariants.{RptEna, EntryID, GI, ResvTms}
use Rattle.bay_model.specs.Model.{Model}
use Rattle.bay_model.specs.Points.{Deed, wrote, lost, reported, Past}
use Rattle.bay_model.specs.Entries.{selected}
use Rattle.bay_model.specs.Retained.{front}

abbrev pub enabler_after : ℕ → Deed → Option ℕ → Option ℕ
enabler_after b (wrote a k RptEna (kinds.Bool on)) was = if k == b then (if on then Some a else None) else was
enabler_after b (lost a) was = if option_map_or (λ e. e == a) was false then None else was
enabler_after b _ was = was

-- the association that has enabled block b: its accepted RptEna TRUE is followed by no accepted RptEna FALSE of b and
-- no loss of the association
abbrev pub enabler : ℕ → Past → Option ℕ
enabler b [] = None
enabler b (p ∷ before) = enabler_after b p.deed (enabler b before)

-- an association has enabled a block, and another has; mine says which one it is
abbrev pub is_mine : {H : Type 0} → (H → Bool) → Option H → Bool
is_mine mine enabler = option_map_or mine enabler false

abbrev pub is_anothers : {H : Type 0} → (H → Bool) → Option H → Bool
is_anothers mine enabler = option_map_or (λ e. not (mine e)) enabler false

-- association a has enabled block b
abbrev pub is_enabled_by : ℕ → ℕ → Past → Bool
is_enabled_by b a past = is_mine (λ e. e == a) (enabler b past)

-- an association's write of a component is held, for who has enabled the block: RptEna and ResvTms where another has, GI TRUE
-- where it hasn't, GI FALSE where another has, every other component where anyone has
abbrev pub is_held : {H : Type 0} → (H → Bool) → Comp → Value → Option H → Bool
is_held mine RptEna v enabler = is_anothers mine enabler
is_held mine ResvTms v enabler = is_anothers mine enabler
is_held mine GI (kinds.Bool on) enabler = if on then not (is_mine mine enabler) else is_anothers mine enabler
is_held mine _ v enabler = is_some enabler

abbrev pub sent_after : ℕ → Deed → Bool → ℕ → ℕ
sent_after b (wrote a k RptEna (kinds.Bool on)) idle was = if (k == b) && (on && idle) then 0 else was
sent_after b (reported a k n) idle was = if k == b then suc was else was
sent_after b _ idle was = was

-- how many reports of block b there were since its last enabling: the last accepted RptEna TRUE at which nobody had
-- enabled it
abbrev pub sent : ℕ → Past → ℕ
sent b [] = 0
sent b (p ∷ before) = sent_after b p.deed (is_none (enabler b before)) (sent b before)

-- SqNum
abbrev pub sq_num : ℕ → Past → ℕ
sq_num b past = sent b past % 65536

-- an EntryID of eight octets, as a number
abbrev pub entry_id : List ℕ → ℕ
entry_id octets = from_be_bytes w64 octets

abbrev pub cursor_after : ℕ → Deed → ℕ → ℕ → ℕ
cursor_after b (reported a k n) front was = if k == b then n else was
cursor_after b (wrote a k EntryID (kinds.Octets octets)) front was = if k == b then (if entry_id octets == 0 then min was front else entry_id octets) else was
cursor_after b _ front was = was

-- the cursor of block b: the report of entry n makes it n, an accepted EntryID n makes it n, and an accepted zero the
-- lesser of the cursor and the front
abbrev pub cursor : Model → ℕ → Past → ℕ
cursor c b [] = 0
cursor c b (p ∷ before) = cursor_after b p.deed (front c b (p ∷ before)) (cursor c b before)

-- the least number above the cursor and the front
abbrev pub next_number : Model → ℕ → Past → ℕ
next_number c b past = suc (max (cursor c b past) (front c b past))

-- the number of the entry that is to be reported next, where that entry is there
abbrev pub next : Model → ℕ → Past → Option ℕ
next c b past = if nat_le (next_number c b past) (length (selected c b past)) then Some (next_number c b past) else None

-- BufOvfl: entries that weren't sent were discarded before the next one
abbrev pub is_overflown : Model → ℕ → Past → Bool
is_overflown c b past = nat_lt (cursor c b past) (front c b past)
