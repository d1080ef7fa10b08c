-- The lines of a record, and the texts that spell them.
use Rattle.std.specs.Prelude.{◌≡◌, ◌≤◌, ◌&&◌, nat_le, ℕ, Bool, true, List, length}
use Rattle.std.specs.List.{list_all}
use Rattle.text_words.specs.Octets.{IsSkipped}
use Rattle.text_words.specs.Values.{is_graphic}
use Rattle.sv_base.specs.declared.numbers.AssocNo.{AssocNo}
use Rattle.run_record.specs.Spelled.{words, spelled}
use Rattle.run_record.specs.declared.line.OpenForm.{OpenForm}
use Rattle.run_record.specs.declared.line.OpenForm.TheVariants as forms
use Rattle.run_record.specs.declared.line.RecLine.{RecLine}
use Rattle.run_record.specs.declared.line.RecLine.TheVariants as lines

abbrev pub IsAssoc : AssocNo → Type 0
IsAssoc a = (1 ≤ a.0) × (a.0 ≤ 16)

abbrev pub IsForm : OpenForm → Type 0
IsForm (forms.Mms size) = (1024 ≤ size) × (size ≤ 65000)
IsForm form = Unit {0}

-- the numbers of a line are in their ranges, and a `set` has a pair
abbrev pub IsLine : RecLine → Type 0
IsLine (lines.At moment) = (441763200000 ≤ moment) × (moment ≤ 4294967295999)
IsLine (lines.Open a form) = IsAssoc a × IsForm form
IsLine (lines.Write a block comp value) = IsAssoc a
IsLine (lines.Pdu a hex) = IsAssoc a
IsLine (lines.Piece a hex) = IsAssoc a
IsLine (lines.Take a) = IsAssoc a
IsLine (lines.Lost a) = IsAssoc a
IsLine (lines.Set pairs) = 1 ≤ length pairs
IsLine line = Unit {0}

-- a word has octets 21 to 7E, and one at least
abbrev pub is_word : List ℕ → Bool
is_word word = nat_le 1 (length word) && list_all is_graphic word

-- a line is its words with a space between each two; one that says nothing is empty or a remark
abbrev pub IsText : List ℕ → RecLine → Type 0
IsText text lines.Skip = IsSkipped text
IsText text line = text ≡ spelled line

-- the text, without a newline, spells the line
pub record Spells (text : List ℕ) (line : RecLine) : Type 0 where
  pub short : length text ≤ 140100
  pub text_ : IsText text line
  pub words_ : list_all is_word (words line) ≡ true
  pub ranges : IsLine line
