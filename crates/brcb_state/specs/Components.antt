-- What a report block's components read (IEC 61850-7-2, GetBRCBValues).
use Rattle.std.specs.Prelude.{ℕ, pos, Bool, false, List, Option, is_some}
use Rattle.std.specs.Option.{option_map_or, option_map}
use Rattle.std.specs.Int.{to_be_bytes, w64}
use Rattle.sv_base.specs.declared.value.Value.{Value}
use Rattle.sv_base.specs.declared.value.Value.TheVariants as kinds
use Rattle.sv_base.specs.declared.components.Comp.{Comp}
use Rattle.sv_base.specs.declared.components.Comp.TheVariants as comps
use Rattle.bay_model.specs.declared.flags.Trg.{Trg}
use Rattle.bay_model.specs.Parameters.{bit}
use Rattle.bay_model.specs.Components.{stamp_of, no_stamp, seconds_of, owner_of}
use Rattle.bay_model.specs.Reservations.{lasting}
use Rattle.brcb_state.specs.declared.block.Block.{Block}
use Rattle.brcb_state.specs.declared.block.Holder.{Holder}
use Rattle.brcb_state.specs.declared.told.Retained.{Retained}

-- bits 1 to 5 of TrgOps
abbrev pub trg_of : List Bool → Trg
trg_of trg_ops = record { dchg = bit 1 trg_ops; qchg = bit 2 trg_ops; dupd = bit 3 trg_ops; intg = bit 4 trg_ops; gi = bit 5 trg_ops }

-- a component at the moment now, where newest is the moment of the newest entry
abbrev pub read_of : Comp → Retained → Option ℕ → ℕ → Block → Value
read_of comps.RptID kept newest now s = kinds.Text s.options.rpt_id
read_of comps.RptEna kept newest now s = kinds.Bool (is_some s.enabler)
read_of comps.DatSet kept newest now s = kinds.Text s.options.dat_set
read_of comps.ConfRev kept newest now s = kinds.Uint s.revision
read_of comps.OptFlds kept newest now s = kinds.Bits s.options.opt_flds
read_of comps.BufTm kept newest now s = kinds.Uint s.options.buf_tm
read_of comps.SqNum kept newest now s = kinds.Uint s.count
read_of comps.TrgOps kept newest now s = kinds.Bits s.options.trg_ops
read_of comps.IntgPd kept newest now s = kinds.Uint s.options.intg_pd
read_of comps.GI kept newest now s = kinds.Bool false
read_of comps.PurgeBuf kept newest now s = kinds.Bool false
read_of comps.EntryID kept newest now s = kinds.Octets (to_be_bytes w64 kept.len)
read_of comps.TimeofEntry kept newest now s = kinds.Stamp (option_map_or stamp_of newest no_stamp)
read_of comps.ResvTms kept newest now s = kinds.Int (pos (seconds_of (lasting now s.reservation)))
read_of comps.Owner kept newest now s = kinds.Octets (owner_of (option_map (λ (e : Holder). e.owner) s.enabler) (lasting now s.reservation))
