-- What writes, reports and losses make of a report block, and which of its entries is reported next (IEC 61850-7-2, BRCB
-- attributes).
use Rattle.std.specs.Prelude.{ℕ, suc, ◌+◌, ◌%◌, max, min, Bool, false, List, ◌==◌, ◌&&◌, nat_lt, Option, None, Some, is_none, is_some, if◌then◌else◌}
use Rattle.std.specs.Option.{option_map}
use Rattle.sv_base.specs.declared.numbers.AssocNo.{AssocNo}
use Rattle.sv_base.specs.declared.value.Value.{Value}
use Rattle.sv_base.specs.declared.value.Value.TheVariants as kinds
use Rattle.sv_base.specs.declared.components.Comp.{Comp}
use Rattle.sv_base.specs.declared.components.Comp.TheVariants as comps
use Rattle.bay_model.specs.Model as model
use Rattle.bay_model.specs.Parameters.{written_to, is_changed_by, next_revision}
use Rattle.bay_model.specs.Blocks.{is_mine, is_anothers, entry_id}
use Rattle.bay_model.specs.Reservations.{lasting, reservation_by, without_writer}
use Rattle.brcb_state.specs.declared.block.Block.{Block}
use Rattle.brcb_state.specs.declared.block.Holder.{Holder}
use Rattle.brcb_state.specs.declared.told.Retained.{Retained}
use Rattle.brcb_state.specs.declared.told.Next.{Next}
use Rattle.brcb_state.specs.declared.told.Effect.{Effect}
use Rattle.brcb_state.specs.declared.told.Effect.TheVariants as effects

-- it is association a that has enabled a block
abbrev pub is_its : AssocNo → Holder → Bool
is_its a e = e.by.0 == a.0

-- association a has enabled the block
abbrev pub is_by : AssocNo → Option Holder → Bool
is_by a enabler = is_mine (is_its a) enabler

-- another association than a has
abbrev pub is_by_another : AssocNo → Option Holder → Bool
is_by_another a enabler = is_anothers (is_its a) enabler

-- a block as it is configured
abbrev pub configured : model.Block → Block
configured b = record { reference = b.reference; options = b.initial; revision = b.conf_rev; enabler = None; reservation = None; cursor = 0; count = 0 }

-- the write changes DatSet
abbrev pub is_new_set : Comp → Value → model.Parameters → Bool
is_new_set comps.DatSet v was = is_changed_by comps.DatSet v was
is_new_set _ v was = false

-- the attributes after an accepted write by a, whose address is owner; front is the front of the buffer
abbrev pub attributes_written : AssocNo → List ℕ → Comp → Value → ℕ → Block → Block
attributes_written a owner comps.RptEna (kinds.Bool on) front s = record s { enabler = if on then Some (record { by = a; owner = owner }) else None; count = if on && is_none s.enabler then 0 else s.count }
attributes_written a owner comps.EntryID (kinds.Octets o) front s = record s { cursor = if entry_id o == 0 then min s.cursor front else entry_id o }
attributes_written a owner comp v front s = record s { options = written_to comp v s.options; revision = if is_new_set comp v s.options then next_revision s.revision else s.revision }

-- after an accepted write by a, whose address is owner, at the moment now
abbrev pub written : AssocNo → List ℕ → ℕ → Comp → Value → ℕ → Block → Block
written a owner now comp v front s = record (attributes_written a owner comp v front s) { reservation = reservation_by now a.0 owner comp v (lasting now s.reservation) }

-- what an accepted write brings about besides
abbrev pub effect_of : Comp → Value → Block → Effect
effect_of comps.RptEna (kinds.Bool on) s = if on then (if is_none s.enabler then effects.Enabled else effects.Nothing) else (if is_some s.enabler then effects.Disabled else effects.Nothing)
effect_of comps.GI (kinds.Bool on) s = if on then effects.General else effects.Nothing
effect_of comps.PurgeBuf (kinds.Bool on) s = if on then effects.Purge else effects.Nothing
effect_of comp v s = if is_changed_by comp v s.options then effects.PurgingChange else effects.Nothing

-- after the report of entry n
abbrev pub after_report : ℕ → Block → Block
after_report n s = record s { cursor = n; count = (s.count + 1) % 65536 }

-- after a's loss, at the moment now
abbrev pub after_loss : AssocNo → ℕ → Block → Block
after_loss a now s = record s { enabler = if is_by a s.enabler then None else s.enabler; reservation = option_map (without_writer now a.0) s.reservation }

-- the entry that is reported to a next
abbrev pub next_to : AssocNo → Retained → Block → Option Next
next_to a kept s = if is_by a s.enabler && nat_lt (max s.cursor kept.front) kept.len then Some (record { id = suc (max s.cursor kept.front); ovfl = nat_lt s.cursor kept.front; sq = s.count }) else None
