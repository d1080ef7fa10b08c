-- What the components of report blocks and of setting group blocks read (IEC 61850-7-2, GetBRCBValues and
-- GetSGCBValues; what EntryID, TimeofEntry, GI, PurgeBuf and CnfEdit read is this profile's own).
use Rattle.std.specs.Prelude.{ℕ, pos, ◌-◌, ◌*◌, ◌/◌, ◌%◌, ◌^◌, false, List, [], ◌∷◌, length, Option, is_some}
use Rattle.std.specs.Option.{option_map_or, option_map}
use Rattle.std.specs.Int.{to_be_bytes, w64}
use Rattle.sv_base.specs.declared.value.Value.{Value}
use Rattle.sv_base.specs.declared.value.Value.TheVariants as kinds
use Rattle.sv_base.specs.declared.value.Stamp.{Stamp}
use Rattle.sv_base.specs.declared.value.Utc.{Utc}
use Rattle.sv_base.specs.declared.components.Comp.{Comp}
use Rattle.sv_base.specs.declared.components.Comp.TheVariants as comps
use Rattle.bay_model.specs.Model.{Model, SettingComp, NumOfSG, ActSG, EditSG, CnfEdit, LActTm}
use Rattle.bay_model.specs.Lookups.{groups_of}
use Rattle.bay_model.specs.Points.{Past}
use Rattle.bay_model.specs.Parameters.{parameters_at, conf_rev}
use Rattle.bay_model.specs.Entries.{Entry, selected}
use Rattle.bay_model.specs.Associations.{address}
use Rattle.bay_model.specs.Blocks.{enabler, sq_num}
use Rattle.bay_model.specs.Reservations.{Reservation, reservation}
use Rattle.bay_model.specs.Settings.{active, activation, Edit, edit}

-- EntryTime of a moment: milliseconds of the day, and days since 1 January 1984
abbrev pub stamp_of : ℕ → Stamp
stamp_of moment = record { ms = moment % 86400000; days = moment / 86400000 - 5113 }

abbrev pub no_stamp : Stamp
no_stamp = record { ms = 0; days = 0 }

-- TimeStamp of a moment: seconds, the fraction of the rest in 24 bits, and the quality 0A, ten bits of accuracy
abbrev pub utc_of : ℕ → Utc
utc_of moment = record { secs = moment / 1000; frac = (moment % 1000) * 2 ^ 24 / 1000; quality = 10 }

abbrev pub no_utc : Utc
no_utc = record { secs = 0; frac = 0; quality = 0 }

-- the time of the newest of the entries, retained or not
abbrev pub time_of_newest : List Entry → Stamp
time_of_newest [] = no_stamp
time_of_newest (e ∷ []) = stamp_of e.moment
time_of_newest (e ∷ f ∷ es) = time_of_newest (f ∷ es)

-- ResvTms: the seconds of the reservation, 0 where there is none
abbrev pub seconds_of : Option Reservation → ℕ
seconds_of reserved = option_map_or (λ (r : Reservation). r.seconds) reserved 0

-- Owner: the address that a reservation is for, else the enabler's, else no octets
abbrev pub owner_of : Option (List ℕ) → Option Reservation → List ℕ
owner_of enablers reserved = option_map_or (λ (r : Reservation). r.owner) reserved (option_map_or (λ o. o) enablers [])

-- component comp of block b
abbrev pub read_component : Model → ℕ → Comp → Past → Value
read_component c b comps.RptID past = kinds.Text (parameters_at c b past).rpt_id
read_component c b comps.RptEna past = kinds.Bool (is_some (enabler b past))
read_component c b comps.DatSet past = kinds.Text (parameters_at c b past).dat_set
read_component c b comps.ConfRev past = kinds.Uint (conf_rev c b past)
read_component c b comps.OptFlds past = kinds.Bits (parameters_at c b past).opt_flds
read_component c b comps.BufTm past = kinds.Uint (parameters_at c b past).buf_tm
read_component c b comps.SqNum past = kinds.Uint (sq_num b past)
read_component c b comps.TrgOps past = kinds.Bits (parameters_at c b past).trg_ops
read_component c b comps.IntgPd past = kinds.Uint (parameters_at c b past).intg_pd
read_component c b comps.GI past = kinds.Bool false
read_component c b comps.PurgeBuf past = kinds.Bool false
read_component c b comps.EntryID past = kinds.Octets (to_be_bytes w64 (length (selected c b past)))
read_component c b comps.TimeofEntry past = kinds.Stamp (time_of_newest (selected c b past))
read_component c b comps.ResvTms past = kinds.Int (pos (seconds_of (reservation b past)))
read_component c b comps.Owner past = kinds.Octets (owner_of (option_map (λ e. address e past) (enabler b past)) (reservation b past))

-- a component of the setting group block of domain d
abbrev pub read_setting : Model → ℕ → SettingComp → Past → Value
read_setting c d NumOfSG past = kinds.Uint (groups_of c d).count
read_setting c d ActSG past = kinds.Uint (active c d past)
read_setting c d EditSG past = kinds.Uint (option_map_or (λ (e : Edit). e.group) (edit d past) 0)
read_setting c d CnfEdit past = kinds.Bool false
read_setting c d LActTm past = kinds.Time (option_map_or utc_of (activation d past) no_utc)
