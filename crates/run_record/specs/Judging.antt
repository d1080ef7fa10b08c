-- How a line is judged: its octets first, then its words, and then its numbers.
use Rattle.std.specs.Prelude.{◌≡◌, ℕ, ◌==◌, ◌||◌, not, nat_lt, Bool, List, [], ◌∷◌, length, codes, Option, Some, None, Result, Ok, Err, if◌then◌else◌}
use Rattle.std.specs.List.{list_all, list_any}
use Rattle.std.specs.Str.{bytes_eq}
use Rattle.text_words.specs.Octets.{is_printable, is_skipped}
use Rattle.text_words.specs.Words.{words_of}
use Rattle.run_record.specs.Contents.{content_at}
use Rattle.run_record.specs.declared.fault.Kind.{Kind}
use Rattle.run_record.specs.declared.fault.Kind.TheVariants as kinds
use Rattle.run_record.specs.declared.fault.RecFault.{RecFault}
use Rattle.run_record.specs.declared.fault.RecFault.TheVariants as faults
use Rattle.run_record.specs.declared.keyword.Keyword.{Keyword}
use Rattle.run_record.specs.declared.keyword.Keyword.TheVariants as keywords
use Rattle.run_record.specs.declared.line.RecLine.{RecLine}
use Rattle.run_record.specs.declared.line.RecLine.TheVariants as lines

abbrev pub number_of : Kind → ℕ
number_of kinds.Word = 1
number_of kinds.Number = 2
number_of kinds.Name = 3
number_of kinds.Value = 4
number_of kinds.State = 5
number_of kinds.Hex = 6
number_of kinds.NoEnd = 7
number_of kinds.Long = 8

-- what a function returned is what is read; of out of memory nothing is said
abbrev pub Gives : {A : Type 0} → Result A RecFault → Result A Kind → Type 0
Gives (Ok x) read = read ≡ Ok x
Gives (Err (faults.Refused kind)) read = read ≡ Err kind
Gives (Err faults.Memory) read = Unit {0}

abbrev pub keyword_at : List ℕ → Option Keyword
keyword_at word =
    if bytes_eq word (codes "at") then Some keywords.At
    else if bytes_eq word (codes "open") then Some keywords.Open
    else if bytes_eq word (codes "write") then Some keywords.Write
    else if bytes_eq word (codes "pdu") then Some keywords.Pdu
    else if bytes_eq word (codes "in") then Some keywords.Piece
    else if bytes_eq word (codes "take") then Some keywords.Take
    else if bytes_eq word (codes "lost") then Some keywords.Lost
    else if bytes_eq word (codes "set") then Some keywords.Set
    else if bytes_eq word (codes "done") then Some keywords.Done
    else if bytes_eq word (codes "block") then Some keywords.Block
    else if bytes_eq word (codes "tick") then Some keywords.Tick
    else if bytes_eq word (codes "end") then Some keywords.End
    else None

abbrev pub known_at : Option Keyword → List (List ℕ) → Result RecLine Kind
known_at None told = Err kinds.Word
known_at (Some keyword) told = content_at keyword told

-- what words say: the first one is known, and none is empty
unfoldable pub tell_at : List (List ℕ) → Result RecLine Kind
tell_at [] = Err kinds.Word
tell_at (word ∷ more) = if list_any (λ w. length w == 0) (word ∷ more) then Err kinds.Word else known_at (keyword_at word) more

-- it is too long, or has an octet that no line has
abbrev pub is_long : List ℕ → Bool
is_long text = nat_lt 140100 (length text) || not (list_all is_printable text)

-- what a line says, or the first cause for which it is refused
unfoldable pub line_at : List ℕ → Result RecLine Kind
line_at text = if is_long text then Err kinds.Long else if is_skipped text then Ok lines.Skip else tell_at (words_of text)
