-- The text of a made record.
use Rattle.std.specs.Prelude.{ℕ, true, false, List, ◌++◌, codes, decimal}
use Rattle.std.specs.List.{flat_map}
use Rattle.made_records.specs.declared.draw.Draw.{Draw}
use Rattle.made_records.specs.declared.line.MadeLine.{MadeLine}
use Rattle.made_records.specs.declared.line.MadeLine.TheVariants.{Power, Indication, At, Take}
use Rattle.made_records.specs.Made.{first_draw, lines_from}

-- what a line says
abbrev pub line_octets : MadeLine → List ℕ
line_octets (Power n) = codes "set BAY1/MMXU1$MX$TotW$mag$i " ++ decimal n
line_octets (Indication true) = codes "set BAY1/GGIO1$ST$Ind1$stVal T"
line_octets (Indication false) = codes "set BAY1/GGIO1$ST$Ind1$stVal F"
line_octets (At moment) = codes "at " ++ decimal moment
line_octets Take = codes "take 1"

-- with its newline
abbrev pub line_text : MadeLine → List ℕ
line_text line = line_octets line ++ codes "\n"

-- n lines, in order
abbrev pub lines_text : ℕ → Draw → List ℕ
lines_text n d = flat_map line_text (lines_from n d)

abbrev pub configuration : List ℕ
configuration = codes "config 1\nserver Demo Bay 1\nld BAY1\nln LLN0\nset Events\nmember BAY1/XCBR1$ST$Pos\nmember BAY1/GGIO1$ST$Ind1\nmember BAY1/MMXU1$MX$TotW$mag$i\nbrcb brcbEv01 'Ev1 'BAY1/LLN0$Events 1 0111001110 0 011001 0 200\nln XCBR1\nattr ST Pos$stVal dbpos d 01\nattr ST Pos$q quality q 0000000000000\nattr ST Pos$t time - 0000000000000000\nln GGIO1\nattr ST Ind1$stVal bool d F\nattr ST Ind1$q quality q 0000000000000\nattr ST Ind1$t time - 0000000000000000\nln MMXU1\nattr MX TotW$mag$i int32 d 0\nend\n"

-- a client opens an association, and enables its block
abbrev pub opening_line : List ℕ
opening_line = codes "open 1 direct"

abbrev pub enabling_line : List ℕ
enabling_line = codes "write 1 BAY1/LLN0$BR$brcbEv01 RptEna T"

-- what stands before the drawn lines
abbrev pub opening : List ℕ
opening = codes "record 1\n" ++ (configuration ++ (opening_line ++ (codes "\n" ++ (enabling_line ++ codes "\n"))))

abbrev pub ending : List ℕ
ending = codes "end\n"

-- the record that a seed makes with n drawn lines
abbrev pub made_record : ℕ → ℕ → List ℕ
made_record seed count = opening ++ (lines_text count (first_draw seed) ++ ending)
