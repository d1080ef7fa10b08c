-- When a report block has something due: what it gathers is over, or an integrity period ends (IEC 61850-7-2, BRCB attributes
-- BufTm and IntgPd).
use Rattle.std.specs.Prelude.{◌<◌, ◌+◌, ◌-◌, ◌*◌, ◌/◌, ℕ, Bool, not, ◌==◌, ◌&&◌, min, Option, None, Some, if◌then◌else◌}
use Rattle.std.specs.Option.{option_map_or}
use Rattle.bay_model.specs.Model.{Parameters}
use Rattle.bay_model.specs.Parameters.{bit}
use Rattle.bay_model.specs.Breaks.{is_empty}
use Rattle.window_core.specs.Windows.{end_of}
use Rattle.report_block.specs.declared.block.ReportBlock.{ReportBlock}

-- the end of the period that runs at the moment was, counted from the origin
abbrev pub period_end : (period origin was : ℕ) → ℕ
period_end period origin was = origin + ((was - origin) / period + 1) * period

-- with a data set and TrgOps bit 4, a period's end brings an entry
abbrev pub has_entries : Parameters → Bool
has_entries o = not (is_empty o.dat_set) && bit 4 o.trg_ops

-- the next integrity entry after the moment was; where the periods have no origin yet, they get it at once
abbrev pub next_integrity : ℕ → ReportBlock → Option ℕ
next_integrity was part =
    if part.block.options.intg_pd == 0 then None
    else option_map_or (λ o. if has_entries part.block.options then Some (period_end part.block.options.intg_pd o was) else None) part.origin (Some 0)

abbrev pub earliest : Option ℕ → Option ℕ → Option ℕ
earliest None y = y
earliest (Some x) None = Some x
earliest (Some x) (Some y) = Some (min x y)

-- the least moment after the moment was at which the block has something due; none where it has nothing
abbrev pub due_at : ℕ → ReportBlock → Option ℕ
due_at was part = earliest (end_of part.window) (next_integrity was part)

-- the moment lies before it
abbrev pub IsBefore : ℕ → Option ℕ → Type 0
IsBefore now None = Unit {0}
IsBefore now (Some m) = now < m
