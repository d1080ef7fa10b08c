-- How a line among scripts is spelled, and what it says.
use Rattle.std.specs.Prelude.{ℕ, Bool, List, [], ◌∷◌, ◌++◌, codes, Option, None, Some, Result, Ok, Err, if◌then◌else◌}
use Rattle.std.specs.Fmt.{decimal}
use Rattle.std.specs.Str.{bytes_eq}
use Rattle.text_words.specs.Words.{behind}
use Rattle.text_words.specs.Numbers.{number_within}
use Rattle.text_words.specs.Spelled.{spaced}
use Rattle.run_record.specs.Spelled.{spelled}
use Rattle.run_record.specs.Grammar.{is_word}
use Rattle.run_record.specs.Judging.{line_at}
use Rattle.run_record.specs.declared.fault.Kind.{Kind}
use Rattle.run_record.specs.declared.fault.Kind.TheVariants as kinds
use Rattle.run_record.specs.declared.line.RecLine.{RecLine}
use Rattle.script_lines.specs.declared.party.Party.{Party}
use Rattle.script_lines.specs.declared.party.Party.TheVariants as parties
use Rattle.script_lines.specs.declared.line.ScriptLine.{ScriptLine}
use Rattle.script_lines.specs.declared.line.ScriptLine.TheVariants as scripts

-- the first line of an input
abbrev pub is_heading_text : List ℕ → Bool
is_heading_text text = bytes_eq text (codes "rehearse 1")

-- ---- spelling

abbrev pub party_text : Party → List ℕ
party_text (parties.Association a) = codes "script association" ++ spaced (decimal a.0)
party_text parties.Process = codes "script process"

abbrev pub script_text : ScriptLine → List ℕ
script_text (scripts.Begins party) = party_text party
script_text scripts.Closes = codes "close"
script_text (scripts.Step line) = spelled line

-- with its newline
abbrev pub script_line_text : ScriptLine → List ℕ
script_line_text line = script_text line ++ 10 ∷ []

-- ---- reading

-- the script of the association whose number the word is; a word that is no such number is refused as one, and no word, or more
-- than one, as words
abbrev pub numbered_as : List ℕ → Option ℕ → Result ScriptLine Kind
numbered_as word (Some n) = Ok (scripts.Begins (parties.Association (record { 0 = n })))
numbered_as word None = if is_word word then Err kinds.Number else Err kinds.Word

abbrev pub numbered : List ℕ → Result ScriptLine Kind
numbered word = numbered_as word (number_within 1 16 word)

abbrev pub associated : Option (List ℕ) → Result ScriptLine Kind
associated None = Err kinds.Word
associated (Some word) = numbered word

-- the line with which a script begins or ends
unfoldable pub mark_at : List ℕ → Result ScriptLine Kind
mark_at text =
    if bytes_eq text (codes "script process") then Ok (scripts.Begins parties.Process)
    else if bytes_eq text (codes "close") then Ok scripts.Closes
    else associated (behind (codes "script association ") text)

-- what a text says that is no line of a record for this cause
abbrev pub beside : List ℕ → Result RecLine Kind → Result ScriptLine Kind
beside text (Ok line) = Ok (scripts.Step line)
beside text (Err kinds.Word) = mark_at text
beside text (Err kind) = Err kind

-- what a line says, or the first cause for which it is refused
unfoldable pub script_line_at : List ℕ → Result ScriptLine Kind
script_line_at text = beside text (line_at text)
