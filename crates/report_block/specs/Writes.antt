-- What writes, reports and losses make of a block (IEC 61850-7-2, BRCB attributes).
use Rattle.std.specs.Prelude.{ℕ, ◌-◌, nat_lt, List, [], Option, Some, is_some, Result, Ok, Err, if◌then◌else◌}
use Rattle.std.specs.Option.{option_map}
use Rattle.sv_base.specs.declared.numbers.AssocNo.{AssocNo}
use Rattle.sv_base.specs.declared.value.Value.{Value}
use Rattle.sv_base.specs.declared.components.Comp.{Comp}
use Rattle.sv_base.specs.declared.components.Comp.TheVariants as comps
use Rattle.brcb_state.specs.Changes.{after_report, after_loss}
use Rattle.brcb_state.specs.Refusals.{answer_to, is_foreign, names_nothing}
use Rattle.brcb_state.specs.Standing.{is_purging, is_change}
use Rattle.brcb_state.specs.declared.told.Effect.{Effect}
use Rattle.window_core.specs.Standing.{body_of}
use Rattle.report_block.specs.declared.block.ReportBlock.{ReportBlock}
use Rattle.report_block.specs.Coming.{after_bodies, purged_if, closed_at, window_after}
use Rattle.report_block.specs.Offers.{retained_of}

abbrev pub lost_by : AssocNo → ℕ → ReportBlock → ReportBlock
lost_by a now part = record part { block = after_loss a now part.block }

-- the report of entry n was given
abbrev pub reported_by : ℕ → ReportBlock → ReportBlock
reported_by n part = record part { block = after_report n part.block }

abbrev pub without_effect : Result Effect ℕ → Result (Unit {0}) ℕ
without_effect (Ok effect) = Ok tt
without_effect (Err code) = Err code

-- the number of the block's data set after an accepted write; named is that of the set which a written DatSet names
abbrev pub set_after : Comp → Option ℕ → Option ℕ → Option ℕ
set_after comps.DatSet named was = named
set_after _ named was = was

-- the number of a data set after that of another, k, was deleted: those above move down by one
abbrev pub moved : ℕ → Option ℕ → Option ℕ
moved k set = option_map (λ j. if nat_lt k j then j - 1 else j) set

abbrev pub renumbered : ℕ → ReportBlock → ReportBlock
renumbered k part = record part { set = moved k part.set }

-- what a write is answered
abbrev pub write_answer : AssocNo → List ℕ → ℕ → Comp → Value → Option ℕ → ReportBlock → Result Effect ℕ
write_answer a owner now comp v named part = answer_to a (is_foreign owner now part.block) comp v (names_nothing (retained_of part) (is_some named) comp v) part.block

-- a block whose attributes are these by now, after an accepted write of this effect
abbrev pub settled : ℕ → ℕ → Effect → ReportBlock → ReportBlock
settled now step effect part = record part {
  ring = purged_if (is_purging effect) (after_bodies part.ring (body_of step (closed_at (is_purging effect) now [] part.window)));
  window = window_after (is_purging effect) now [] part.block.options.buf_tm part.window;
  origin = if is_change effect then Some now else part.origin;
}
