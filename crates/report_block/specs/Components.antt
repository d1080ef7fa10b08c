-- What a write of any component makes of a block (IEC 61850-7-2, SetBRCBValues).
use Rattle.std.specs.Prelude.{ℕ, [], ◌||◌, Option, Some, Result, Ok, Err, List, ◌++◌, if◌then◌else◌}
use Rattle.sv_base.specs.declared.numbers.AssocNo.{AssocNo}
use Rattle.sv_base.specs.declared.value.Value.{Value}
use Rattle.sv_base.specs.declared.components.Comp.{Comp}
use Rattle.brcb_state.specs.Changes.{written}
use Rattle.brcb_state.specs.Standing.{is_purging, is_change, is_general}
use Rattle.brcb_state.specs.declared.told.Effect.{Effect}
use Rattle.window_core.specs.Pieces.{Piece}
use Rattle.window_core.specs.Standing.{body_of}
use Rattle.report_block.specs.declared.block.ReportBlock.{ReportBlock}
use Rattle.report_block.specs.declared.components.Written.{Written}
use Rattle.report_block.specs.Coming.{Coming, after_bodies, purged_if, closed_at, window_after, general_body}
use Rattle.report_block.specs.Writes.{set_after, write_answer}

-- what a write is answered
abbrev pub any_answer : Written → ℕ → ReportBlock → Result Effect ℕ
any_answer w now part = write_answer w.by w.owner now w.comp w.value.now w.named part

-- what comes of an accepted write of this effect, from this address; these are all members, with their values
abbrev pub coming_by : List Piece → List ℕ → Effect → Coming
coming_by all owner effect = record { owner = owner; note = []; general = is_general effect; all = all; purge = is_purging effect; change = is_change effect }

-- a block whose attributes are these by now, after an accepted write of this effect
abbrev pub brought : ℕ → ℕ → List Piece → Effect → ReportBlock → ReportBlock
brought now step all effect part = record part {
  ring = purged_if (is_purging effect) (after_bodies part.ring (body_of step (closed_at (is_general effect || is_purging effect) now [] part.window) ++ general_body now step (coming_by all [] effect)));
  window = window_after (is_general effect || is_purging effect) now [] part.block.options.buf_tm part.window;
  origin = if is_change effect then Some now else part.origin;
}

-- after a write that was answered so
abbrev pub after_writing : AssocNo → List ℕ → Comp → Value → Option ℕ → ℕ → ℕ → List Piece → ReportBlock → Result Effect ℕ → ReportBlock
after_writing a owner comp v named now step all part (Ok effect) = record (brought now step all effect (record part { block = written a owner now comp v part.ring.front part.block })) { set = set_after comp named part.set }
after_writing a owner comp v named now step all part (Err code) = part

abbrev pub after_any : Written → ℕ → ℕ → List Piece → ReportBlock → Result Effect ℕ → ReportBlock
after_any w now step all part answer = after_writing w.by w.owner w.comp w.value.now w.named now step all part answer
