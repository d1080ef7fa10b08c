-- Worked histories: setting groups that are activated and edited (IEC 61850-7-2, SGCB: SelectActiveSG, SelectEditSG,
-- SetEditSGValue, ConfirmEditSGValues and GetEditSGValue).
use Rattle.std.specs.Prelude.{ℕ, true, false, pos, [], ◌∷◌, codes}
use Rattle.sv_base.specs.declared.value.Value.TheVariants as kinds
use Rattle.bay_model.specs.declared.step.Step.TheVariants as steps
use Rattle.bay_model.specs.Answers.{Turn}
use Rattle.bay_examples.specs.ExampleTurns.{turn, at, open_direct, lost, take, Answered}
use Rattle.bay_examples.specs.ExampleRequests.{target, read, write_to, gave, gave_none, wrote, wrote_none}
use Rattle.bay_examples.specs.ExampleSettings.{example_settings}

abbrev pub activate : (a invoke n : ℕ) → Turn
activate a invoke n = write_to a invoke (target 38 (codes "LLN0$SP$SGCB$ActSG")) (kinds.Uint n)

abbrev pub edit : (a invoke n : ℕ) → Turn
edit a invoke n = write_to a invoke (target 39 (codes "LLN0$SP$SGCB$EditSG")) (kinds.Uint n)

abbrev pub confirm : (a invoke : ℕ) → Turn
confirm a invoke = write_to a invoke (target 40 (codes "LLN0$SP$SGCB$CnfEdit")) (kinds.Bool true)

abbrev pub read_setting : (a invoke : ℕ) → Turn
read_setting a invoke = read a invoke (target 44 (codes "MMXU1$SG$StrVal$setMag"))

abbrev pub read_edited : (a invoke : ℕ) → Turn
read_edited a invoke = read a invoke (target 47 (codes "MMXU1$SE$StrVal$setMag"))

abbrev pub write_edited : (a invoke n : ℕ) → Turn
write_edited a invoke n = write_to a invoke (target 47 (codes "MMXU1$SE$StrVal$setMag")) (kinds.Int (pos n))

abbrev pub read_last : (a invoke : ℕ) → Turn
read_last a invoke = read a invoke (target 41 (codes "LLN0$SP$SGCB$LActTm"))

-- Under SG the setting is that of the active group; a group that isn't there can't be activated.
abbrev pub ActiveGroup : Type 0
ActiveGroup = Answered example_settings (open_direct 1 ∷ read_setting 1 1 ∷ activate 1 2 3 ∷ activate 1 3 2 ∷ read_setting 1 4 ∷ [])
    (take 1 ∷ take 1 ∷ take 1 ∷ take 1 ∷ [])
    (gave 1 (kinds.Int (pos 10)) ∷ wrote_none 2 11 ∷ wrote 3 ∷ gave 4 (kinds.Int (pos 20)) ∷ [])

-- A group that was edited and confirmed has the new value once it is active; before the edit and after it there is no copy
-- to read.
abbrev pub EditedGroup : Type 0
EditedGroup = Answered example_settings (open_direct 1 ∷ activate 1 1 2 ∷ read_edited 1 2 ∷ edit 1 3 1 ∷ write_edited 1 4 15 ∷ confirm 1 5 ∷ read_edited 1 6 ∷ activate 1 7 1 ∷ read_setting 1 8 ∷ [])
    (take 1 ∷ take 1 ∷ take 1 ∷ take 1 ∷ take 1 ∷ take 1 ∷ take 1 ∷ take 1 ∷ [])
    (wrote 1 ∷ gave_none 2 2 ∷ wrote 3 ∷ wrote 4 ∷ wrote 5 ∷ gave_none 6 2 ∷ wrote 7 ∷ gave 8 (kinds.Int (pos 15)) ∷ [])

-- The active group has its new value at once when it is confirmed, and not before.
abbrev pub ConfirmedActive : Type 0
ConfirmedActive = Answered example_settings (open_direct 1 ∷ edit 1 1 1 ∷ write_edited 1 2 15 ∷ read_setting 1 3 ∷ confirm 1 4 ∷ read_setting 1 5 ∷ [])
    (take 1 ∷ take 1 ∷ take 1 ∷ take 1 ∷ take 1 ∷ [])
    (wrote 1 ∷ wrote 2 ∷ gave 3 (kinds.Int (pos 10)) ∷ wrote 4 ∷ gave 5 (kinds.Int (pos 15)) ∷ [])

-- One association holds the edit: every other may read the copy, and neither write it nor begin another. Its loss drops
-- the copy.
abbrev pub HeldEdit : Type 0
HeldEdit = Answered example_settings (open_direct 1 ∷ open_direct 2 ∷ edit 1 1 2 ∷ write_edited 1 2 15 ∷ read_edited 2 1 ∷ write_edited 2 2 16 ∷ edit 2 3 1 ∷ confirm 2 4 ∷ lost 1 ∷ read_edited 2 5 ∷ edit 2 6 2 ∷ read_edited 2 7 ∷ [])
    (take 2 ∷ take 2 ∷ take 2 ∷ take 2 ∷ take 2 ∷ take 2 ∷ take 2 ∷ [])
    (gave 1 (kinds.Int (pos 15)) ∷ wrote_none 2 2 ∷ wrote_none 3 2 ∷ wrote_none 4 2 ∷ gave_none 5 2 ∷ wrote 6 ∷ gave 7 (kinds.Int (pos 20)) ∷ [])

-- LActTm is the moment of the last activation, and zero before the first.
abbrev pub LastActivation : Type 0
LastActivation = Answered example_settings (open_direct 1 ∷ read_last 1 1 ∷ at 1500 (activate 1 2 1) ∷ at 2000 (read_last 1 3) ∷ [])
    (take 1 ∷ take 1 ∷ take 1 ∷ [])
    (gave 1 (kinds.Time (record { secs = 0; frac = 0; quality = 0 })) ∷ wrote 2 ∷ gave 3 (kinds.Time (record { secs = 441763201; frac = 8388608; quality = 10 })) ∷ [])

-- CnfEdit FALSE does nothing, and EditSG 0 drops the copy.
abbrev pub DroppedEdit : Type 0
DroppedEdit = Answered example_settings (open_direct 1 ∷ edit 1 1 2 ∷ write_to 1 2 (target 40 (codes "LLN0$SP$SGCB$CnfEdit")) (kinds.Bool false) ∷ read_edited 1 3 ∷ edit 1 4 0 ∷ read_edited 1 5 ∷ activate 1 6 0 ∷ [])
    (take 1 ∷ take 1 ∷ take 1 ∷ take 1 ∷ take 1 ∷ take 1 ∷ [])
    (wrote 1 ∷ wrote 2 ∷ gave 3 (kinds.Int (pos 20)) ∷ wrote 4 ∷ gave_none 5 2 ∷ wrote_none 6 11 ∷ [])

-- What the process sets is of the active group alone.
abbrev pub SetByProcess : Type 0
SetByProcess = Answered example_settings (open_direct 1 ∷ turn 0 (steps.Value (record { attr = record { 0 = 7 }; value = kinds.Int (pos 11) } ∷ [])) ∷ activate 1 1 2 ∷ read_setting 1 2 ∷ activate 1 3 1 ∷ read_setting 1 4 ∷ [])
    (take 1 ∷ take 1 ∷ take 1 ∷ take 1 ∷ [])
    (wrote 1 ∷ gave 2 (kinds.Int (pos 20)) ∷ wrote 3 ∷ gave 4 (kinds.Int (pos 11)) ∷ [])
