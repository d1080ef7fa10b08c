-- What a write of a component makes of a bay at its arrival (IEC 61850-7-2, SetBRCBValues).
use Rattle.std.specs.Prelude.{◌≡◌, ℕ, true, List, [], ◌∷◌, is_some, Result, slice_set}
use Rattle.std.specs.Option.{option_map_or}
use Rattle.sv_base.specs.declared.config.Config.{Config}
use Rattle.sv_base.specs.declared.numbers.AssocNo.{AssocNo}
use Rattle.sv_base.specs.declared.value.Value.{Value}
use Rattle.sv_base.specs.declared.components.Comp.{Comp}
use Rattle.bay_model.specs.Named.{configured_model}
use Rattle.bay_model.specs.Notes.{all_members, no_reason}
use Rattle.bay_model.specs.Points.{Past, wrote}
use Rattle.bay_model.specs.Singles.{arrival}
use Rattle.assoc_table.specs.declared.waiting.Ends.{Ends}
use Rattle.assoc_table.specs.Seats.{Row}
use Rattle.assoc_table.specs.Tables.{row_of}
use Rattle.object_model.specs.Nodes.{node_rows}
use Rattle.brcb_state.specs.declared.told.Effect.{Effect}
use Rattle.report_block.specs.declared.block.ReportBlock.{ReportBlock}
use Rattle.report_block.specs.Alls.{all_pieces, for_general}
use Rattle.report_block.specs.Components.{after_writing}
use Rattle.report_block.specs.Writes.{write_answer}
use Rattle.window_core.specs.Pieces.{Piece}
use Rattle.window_core.specs.Points.{at}
use Rattle.report_block.specs.Coming.{AreOf}
use Rattle.bay_core.specs.Standing.{StandsAt}
use Rattle.bay_core.specs.State.{State}
use Rattle.block_watch.specs.Watched.{members_in}
use Rattle.bay_core.specs.Written.{named_by}

-- association a is open
abbrev pub IsOpenAt : State → ℕ → Type 0
IsOpenAt s a = is_some (row_of s.rows a).ends ≡ true

-- the address from which it was opened
abbrev pub owner_in : List Row → ℕ → List ℕ
owner_in rows a = option_map_or (λ (e : Ends). e.owner) (row_of rows a).ends []

abbrev pub owner_at : ℕ → State → List ℕ
owner_at a s = owner_in s.rows a

-- what the block answers
abbrev pub answer_at : AssocNo → Comp → Value → ReportBlock → State → Result Effect ℕ
answer_at a comp v part s = write_answer a (owner_at a.0 s) s.latest comp v (named_by comp v s.book) part

-- all members of the block's data set with their values, as a general interrogation takes them
abbrev pub general_at : ReportBlock → State → List Piece
general_at part s = all_pieces s.stored (members_in (node_rows s.config) s.book part) for_general

-- they are those of the model, for block b and a write, after all points that the state stands for
abbrev pub AreGeneral : AssocNo → ℕ → Comp → Value → ReportBlock → State → Type 0
AreGeneral a b comp v part s = (c : Config) (n t : ℕ) (past : Past) → StandsAt s c n (arrival n t ∷ past)
    → AreOf (general_at part s) (all_members (configured_model c) b (record no_reason { gi = true }) past (at n t (wrote a.0 b comp v) ∷ past))

-- the state then; part is the block of number b
abbrev pub written_at : AssocNo → ℕ → Comp → Value → ReportBlock → State → State
written_at a b comp v part s = record s {
  parts = slice_set s.parts b (after_writing a (owner_at a.0 s) comp v (named_by comp v s.book) s.latest s.steps (general_at part s) part (answer_at a comp v part s));
}
