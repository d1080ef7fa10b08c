-- How many entries a block will have once time has passed, the moment of the newest one, and what its components will then read
-- (IEC 61850-7-2, GetBRCBValues).
use Rattle.std.specs.Prelude.{ℕ, suc, Bool, true, false, ◌&&◌, nat_lt, nat_le, Option, None, Some, if◌then◌else◌}
use Rattle.std.specs.Option.{option_and_then}
use Rattle.sv_base.specs.declared.value.Value.{Value}
use Rattle.sv_base.specs.declared.components.Comp.{Comp}
use Rattle.bay_model.specs.Entries.{last_number}
use Rattle.brcb_state.specs.Components.{read_of}
use Rattle.entry_ring.specs.Ringed.{Ringed}
use Rattle.window_core.specs.Windows.{Gathered, over_at}
use Rattle.report_block.specs.declared.block.ReportBlock.{ReportBlock}
use Rattle.report_block.specs.declared.reading.Newest.{Newest}
use Rattle.report_block.specs.Coming.{is_due}

abbrev pub newest_in : Ringed → Newest
newest_in r = record { count = r.newest; moment = r.newest_moment }

-- with the entry of a moment, as far as there are numbers
abbrev pub with_entry : ℕ → Newest → Newest
with_entry m w = if nat_lt w.count last_number then record { count = suc w.count; moment = Some m } else w

abbrev pub with_group : Option ℕ → Newest → Newest
with_group None w = w
with_group (Some m) w = with_entry m w

-- a moment that a step can have
abbrev pub is_moment : ℕ → Bool
is_moment m = nat_le 441763200000 m && nat_le m 4294967295999

-- the moment of what is gathered
abbrev pub moment_of : Option Gathered → Option ℕ
moment_of g = option_and_then (λ (g : Gathered). if is_moment g.moment then Some g.moment else None) g

-- where the time is due all that is gathered closes, and the integrity entry follows; else what is over closes
abbrev pub foretold_if : Bool → ℕ → ReportBlock → Newest
foretold_if true now part = with_entry now (with_group (moment_of part.window.gathered) (newest_in part.ring))
foretold_if false now part = with_group (moment_of (over_at now part.window)) (newest_in part.ring)

-- time has passed from the moment was to now
abbrev pub foretold : ℕ → ℕ → ReportBlock → Newest
foretold was now part = foretold_if (is_due was now part) now part

-- component comp, with n entries
abbrev pub read_with : Newest → Comp → ℕ → ReportBlock → Value
read_with w comp now part = read_of comp (record { front = part.ring.front; len = w.count }) w.moment now part.block

abbrev pub reading : ℕ → ℕ → Comp → ReportBlock → Value
reading was now comp part = read_with (foretold was now part) comp now part
