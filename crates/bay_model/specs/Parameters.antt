-- The parameters of a report block, what purges it, and its ConfRev (IEC 61850-7-2, BUFFERED-REPORT-CONTROL-BLOCK:
-- RptID, DatSet, OptFlds, BufTm, TrgOps, IntgPd, PurgeBuf, GI and ConfRev).
use Rattle.std.specs.Prelude.{ℕ, suc, Bool, false, not, ◌&&◌, ◌||◌, ◌==◌, List, [], ◌∷◌, unwrap_or, slice_get, if◌then◌else◌}
use Rattle.std.specs.Str.{bytes_eq}
use Rattle.sv_base.specs.Same.{is_same_bits}
use Rattle.sv_base.specs.declared.value.Value.{Value}
use Rattle.sv_base.specs.declared.value.Value.TheVariants as kinds
use Rattle.sv_base.specs.declared.components.Comp.{Comp}
use Rattle.sv_base.specs.declared.components.Comp.TheVariants as comps
use Rattle.bay_model.specs.Model.{Model, Parameters}
use Rattle.bay_model.specs.Lookups.{block_of}
use Rattle.bay_model.specs.Points.{Deed, wrote, Past}

-- the parameters after a write of a component
abbrev pub written_to : Comp → Value → Parameters → Parameters
written_to comps.RptID (kinds.Text t) was = record was { rpt_id = t }
written_to comps.DatSet (kinds.Text t) was = record was { dat_set = t }
written_to comps.OptFlds (kinds.Bits b) was = record was { opt_flds = b }
written_to comps.BufTm (kinds.Uint n) was = record was { buf_tm = n }
written_to comps.TrgOps (kinds.Bits b) was = record was { trg_ops = b }
written_to comps.IntgPd (kinds.Uint n) was = record was { intg_pd = n }
written_to _ _ was = was

abbrev pub parameters_after : ℕ → Deed → Parameters → Parameters
parameters_after b (wrote a k comp v) was = if k == b then written_to comp v was else was
parameters_after b _ was = was

-- the parameters of block b: each by its last accepted write, else by configuration
abbrev pub parameters_at : Model → ℕ → Past → Parameters
parameters_at c b [] = (block_of c b).initial
parameters_at c b (p ∷ before) = parameters_after b p.deed (parameters_at c b before)

-- the write changes RptID, DatSet, BufTm, TrgOps or IntgPd
abbrev pub is_changed_by : Comp → Value → Parameters → Bool
is_changed_by comps.RptID (kinds.Text t) was = not (bytes_eq t was.rpt_id)
is_changed_by comps.DatSet (kinds.Text t) was = not (bytes_eq t was.dat_set)
is_changed_by comps.BufTm (kinds.Uint n) was = not (n == was.buf_tm)
is_changed_by comps.TrgOps (kinds.Bits b) was = not (is_same_bits b was.trg_ops)
is_changed_by comps.IntgPd (kinds.Uint n) was = not (n == was.intg_pd)
is_changed_by _ _ was = false

-- a purging change: an accepted write that changes one of these
abbrev pub is_purging_change : Model → ℕ → Deed → Past → Bool
is_purging_change c b (wrote a k comp v) before = is_changed_by comp v (parameters_at c b before) && (k == b)
is_purging_change c b _ before = false

-- an accepted PurgeBuf TRUE
abbrev pub is_purge : ℕ → Deed → Bool
is_purge b (wrote a k comps.PurgeBuf (kinds.Bool on)) = (k == b) && on
is_purge b _ = false

-- the deed purges block b: by PurgeBuf TRUE, or by a purging change
abbrev pub purges : Model → ℕ → Deed → Past → Bool
purges c b deed before = is_purge b deed || is_purging_change c b deed before

-- an accepted GI TRUE
abbrev pub is_interrogation : ℕ → Deed → Bool
is_interrogation b (wrote a k comps.GI (kinds.Bool on)) = (k == b) && on
is_interrogation b _ = false

-- 1 follows the greatest number
abbrev pub next_revision : ℕ → ℕ
next_revision n = if n == 4294967295 then 1 else suc n

-- an accepted write that changes DatSet
abbrev pub is_new_set : Model → ℕ → Deed → Past → Bool
is_new_set c b (wrote a k comps.DatSet v) before = is_changed_by comps.DatSet v (parameters_at c b before) && (k == b)
is_new_set c b _ before = false

-- ConfRev: the configured number, moved on by one at each change of DatSet
abbrev pub conf_rev : Model → ℕ → Past → ℕ
conf_rev c b [] = (block_of c b).conf_rev
conf_rev c b (p ∷ before) = if is_new_set c b p.deed before then next_revision (conf_rev c b before) else conf_rev c b before

-- bit i of TrgOps or OptFlds, the first being bit 0
abbrev pub bit : ℕ → List Bool → Bool
bit i bits = unwrap_or (slice_get bits i) false
