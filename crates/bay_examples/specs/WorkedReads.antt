-- Worked histories: what reads give (IEC 61850-7-2, GetDataValues and GetBRCBValues; ISO 9506-2, DataAccessError).
use Rattle.std.specs.Prelude.{ℕ, true, false, pos, List, [], ◌∷◌, ◌++◌, replicate, Ok, codes}
use Rattle.sv_base.specs.Tree as seen
use Rattle.sv_base.specs.declared.value.Value.TheVariants as kinds
use Rattle.bay_model.specs.declared.reply.Asked.TheVariants as asked
use Rattle.bay_model.specs.declared.reply.Reply.TheVariants as replies
use Rattle.bay_model.specs.declared.request.ObjName.TheVariants as names
use Rattle.bay_model.specs.declared.request.Service.TheVariants as services
use Rattle.bay_model.specs.declared.request.Target.{Target}
use Rattle.bay_model.specs.declared.request.Target.TheVariants as targets
use Rattle.sv_base.specs.declared.components.Comp.TheVariants as comps
use Rattle.bay_model.specs.Answers.{Turn}
use Rattle.bay_examples.specs.Example.{example, block, bits_of}
use Rattle.bay_examples.specs.ExampleNodes.{domain}
use Rattle.bay_examples.specs.ExampleTurns.{at, open_direct, open_with, take, write, set_position, set_power, Answered}
use Rattle.bay_examples.specs.ExampleRequests.{ask, target, read, write_to, replied, gave, gave_none, wrote_none}
use Rattle.bay_examples.specs.ExampleControl.{example_control}

abbrev pub read_entry_id : ℕ → Turn
read_entry_id invoke = read 1 invoke (target 14 (codes "LLN0$BR$brcbEv01$EntryID"))

abbrev pub read_time : ℕ → Turn
read_time invoke = read 1 invoke (target 15 (codes "LLN0$BR$brcbEv01$TimeofEntry"))

-- EntryID and TimeofEntry are those of the newest entry, and zero before the first.
abbrev pub ReadsOfNewestEntry : Type 0
ReadsOfNewestEntry = Answered (example 200) (open_direct 1 ∷ read_entry_id 1 ∷ read_time 2 ∷ at 86400001 (set_power 1) ∷ at 86400002 (read_entry_id 3) ∷ at 86400002 (read_time 4) ∷ [])
    (take 1 ∷ take 1 ∷ take 1 ∷ take 1 ∷ [])
    (gave 1 (kinds.Octets (0 ∷ 0 ∷ 0 ∷ 0 ∷ 0 ∷ 0 ∷ 0 ∷ 0 ∷ [])) ∷ gave 2 (kinds.Stamp (record { ms = 0; days = 0 }))
    ∷ gave 3 (kinds.Octets (0 ∷ 0 ∷ 0 ∷ 0 ∷ 0 ∷ 0 ∷ 0 ∷ 1 ∷ [])) ∷ gave 4 (kinds.Stamp (record { ms = 1; days = 1 })) ∷ [])

-- ConfRev counts the changes of DatSet, where writing the same is none; 1 follows its greatest number.
abbrev pub CountedChanges : Type 0
CountedChanges = (Answered (example 200) (open_direct 1 ∷ write 1 comps.DatSet (kinds.Text []) ∷ write 1 comps.DatSet (kinds.Text []) ∷ write 1 comps.DatSet (kinds.Text (codes "BAY1/LLN0$Events")) ∷ read 1 1 (target 6 (codes "LLN0$BR$brcbEv01$ConfRev")) ∷ [])
    (take 1 ∷ [])
    (gave 1 (kinds.Uint 3) ∷ []))
    × (Answered (record (example 200) { blocks = record (block 200) { conf_rev = 4294967295 } ∷ [] }) (open_direct 1 ∷ write 1 comps.DatSet (kinds.Text []) ∷ read 1 1 (target 6 (codes "LLN0$BR$brcbEv01$ConfRev")) ∷ []) (take 1 ∷ []) (gave 1 (kinds.Uint 1) ∷ []))

-- A structure gives its parts in order.
abbrev pub ReadOfStructure : Type 0
ReadOfStructure = Answered (example 200) (open_direct 1 ∷ set_position (bits_of (codes "10")) ∷ read 1 1 (target 20 (codes "XCBR1$ST$Pos")) ∷ [])
    (take 1 ∷ [])
    (gave 1 (kinds.Struct (seen.more (seen.plain (seen.bits (true ∷ false ∷ []))) (seen.more (seen.plain (seen.bits (replicate 13 false))) (seen.more (seen.plain (seen.time 0 0 0)) seen.none)))) ∷ [])

-- A name that isn't there, alternate access, a part of a control and the structure around it can't be read; an attribute of
-- the process, and a structure, can't be written.
abbrev pub RefusedAccess : Type 0
RefusedAccess = Answered example_control (open_direct 1 ∷ read 1 1 (targets.Missing (names.Domain domain (codes "XCBR1$ST$Neg"))) ∷ read 1 2 (targets.Alternate (names.Domain domain (codes "XCBR1$ST$Pos")))
    ∷ read 1 3 (target 48 (codes "CSWI1$CO$Pos$Oper$ctlVal")) ∷ read 1 4 (target 35 (codes "CSWI1")) ∷ write_to 1 5 (target 34 (codes "MMXU1$MX$TotW$mag$i")) (kinds.Int (pos 1))
    ∷ write_to 1 6 (target 34 (codes "MMXU1$MX$TotW$mag$i")) (kinds.Bool true) ∷ write_to 1 7 (target 20 (codes "XCBR1$ST$Pos")) (kinds.Bool true) ∷ [])
    (take 1 ∷ take 1 ∷ take 1 ∷ take 1 ∷ take 1 ∷ take 1 ∷ take 1 ∷ [])
    (gave_none 1 10 ∷ gave_none 2 9 ∷ gave_none 3 3 ∷ gave_none 4 3 ∷ wrote_none 5 3 ∷ wrote_none 6 7 ∷ wrote_none 7 3 ∷ [])

-- 48 times the position, in 21 octets of Data, and four times the power of 300, in four
abbrev pub long_read : List Target
long_read = replicate 48 (target 20 (codes "XCBR1$ST$Pos")) ++ replicate 4 (target 34 (codes "MMXU1$MX$TotW$mag$i"))

-- Values that are as long as a PDU are given; with a code more, or in an association whose PDUs are an octet shorter, they are
-- too long for it.
abbrev pub LongReads : Type 0
LongReads = (Answered (example 200) (open_with 1024 1 ∷ set_power 300 ∷ ask 1 1 (services.Read long_read false) ∷ ask 1 2 (services.Read (long_read ++ targets.Missing (names.Vmd []) ∷ []) false) ∷ [])
    (take 1 ∷ take 1 ∷ [])
    (replied 1 (replies.Read asked.No (replicate 48 (Ok (kinds.Struct (seen.more (seen.plain (seen.bits (false ∷ true ∷ []))) (seen.more (seen.plain (seen.bits (replicate 13 false))) (seen.more (seen.plain (seen.time 0 0 0)) seen.none))))) ++ replicate 4 (Ok (kinds.Int (pos 300)))))
    ∷ replied 2 (replies.Error 4 3) ∷ []))
    × (Answered (example 200) (open_with 1023 1 ∷ set_power 300 ∷ ask 1 1 (services.Read long_read false) ∷ []) (take 1 ∷ []) (replied 1 (replies.Error 4 3) ∷ []))
