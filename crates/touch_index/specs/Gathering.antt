-- The notes of one point for all blocks at once, gathered from what the changed attributes touch.
use Rattle.std.specs.Prelude.{◌≡◌, ℕ, ◌+◌, ◌<◌, ◌≤◌, ◌==◌, false, List, [], ◌∷◌, length, cond, slice_index_or, slice_set}
use Rattle.std.specs.List.{All, sum_by}
use Rattle.sv_base.specs.declared.numbers.BlockNo.{BlockNo}
use Rattle.sv_base.specs.Filled.{Filled}
use Rattle.bay_model.specs.declared.flags.Change.{Change}
use Rattle.bay_model.specs.declared.flags.Trg.{Trg}
use Rattle.bay_model.specs.declared.note.Mention.{Mention}
use Rattle.bay_model.specs.declared.tables.MemberShape.{MemberShape}
use Rattle.bay_model.specs.Notes.{is_any}
use Rattle.trigger_core.specs.Noted.{reasons_by}
use Rattle.touch_index.specs.declared.touch.Touch.{Touch}
use Rattle.touch_index.specs.Indexed.{Indexed}
use Rattle.touch_index.specs.Gathered.{add_touches, IsSetOf}

-- the note of each block, and the blocks that have one with a member
pub record Gathered : Type 0 where
  pub notes : List (Filled Mention)
  pub touched : List BlockNo

abbrev pub no_note : Filled Mention
no_note = record { items = []; room = 0 }

abbrev pub note_at : List (Filled Mention) → ℕ → Filled Mention
note_at notes b = slice_index_or notes b no_note

abbrev pub no_trg : Trg
no_trg = record { dchg = false; qchg = false; dupd = false; intg = false; gi = false }

abbrev pub trg_at : List Trg → ℕ → Trg
trg_at trgs b = slice_index_or trgs b no_trg

-- other members in the note of block b
abbrev pub with_items : ℕ → List Mention → List (Filled Mention) → List (Filled Mention)
with_items b ms notes = slice_set notes b (record { items = ms; room = (note_at notes b).room })

-- a note with a member counts 1
abbrev pub weight : Filled Mention → ℕ
weight n = cond (length n.items == 0) 0 1

-- how often the block is among these
abbrev pub occurs : ℕ → List BlockNo → ℕ
occurs b [] = 0
occurs b (x ∷ xs) = cond (x.0 == b) 1 0 + occurs b xs

-- the blocks that are touched are those whose note has a member, each once
pub record IsCovered (notes : List (Filled Mention)) (touched : List BlockNo) : Type 0 where
  pub once : (b : ℕ) → b < length notes → occurs b touched ≡ weight (note_at notes b)
  pub counted : length touched ≡ sum_by weight notes
  pub within : All (λ (b : BlockNo). b.0 < length notes) touched

-- no note has a member
abbrev pub AreEmpty : List (Filled Mention) → Type 0
AreEmpty notes = All (λ (n : Filled Mention). n.items ≡ []) notes

-- what a change of the attribute of these touches adds to the note of block b
abbrev pub add_touched : ℕ → Trg → Change → List Touch → List Mention → List Mention
add_touched b trg ch ts ms = cond (is_any (reasons_by trg ch)) (add_touches b (reasons_by trg ch) ts ms) ms

-- the note of each block has capacity for the members of its data set
abbrev pub AreRoomy : Indexed → List (Filled Mention) → Type 0
AreRoomy x notes = (b : ℕ) → b < length x.blocks → (members : List MemberShape) × IsSetOf x.blocks b members × (length members ≤ (note_at notes b).room)
