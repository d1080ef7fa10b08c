-- How a line is spelled: its words, and a space between each two.
use Rattle.std.specs.Prelude.{ℕ, List, [], ◌∷◌, ◌++◌, codes}
use Rattle.std.specs.Fmt.{decimal}
use Rattle.std.specs.List.{flat_map, join_with_byte}
use Rattle.text_words.specs.Spelled.{truth_word}
use Rattle.run_record.specs.declared.pairs.Pair.{Pair}
use Rattle.run_record.specs.declared.line.OpenForm.{OpenForm}
use Rattle.run_record.specs.declared.line.OpenForm.TheVariants as forms
use Rattle.run_record.specs.declared.line.RecLine.{RecLine}
use Rattle.run_record.specs.declared.line.RecLine.TheVariants as lines

abbrev pub pair_words : Pair → List (List ℕ)
pair_words pair = pair.name ∷ pair.value ∷ []

-- a form with this word for its size
abbrev pub form_with : List ℕ → OpenForm → List (List ℕ)
form_with size forms.Direct = codes "direct" ∷ []
form_with size (forms.Mms most) = codes "mms" ∷ size ∷ []
form_with size forms.Wire = codes "wire" ∷ []

-- the words of a line, with these words for its numbers; none where it is empty or a remark
abbrev pub words_with : List ℕ → List ℕ → RecLine → List (List ℕ)
words_with number size lines.Skip = []
words_with number size (lines.At moment) = codes "at" ∷ number ∷ []
words_with number size (lines.Open a form) = codes "open" ∷ number ∷ form_with size form
words_with number size (lines.Write a block comp value) = codes "write" ∷ number ∷ block ∷ comp ∷ value ∷ []
words_with number size (lines.Pdu a hex) = codes "pdu" ∷ number ∷ hex ∷ []
words_with number size (lines.Piece a hex) = codes "in" ∷ number ∷ hex ∷ []
words_with number size (lines.Take a) = codes "take" ∷ number ∷ []
words_with number size (lines.Lost a) = codes "lost" ∷ number ∷ []
words_with number size (lines.Set pairs) = codes "set" ∷ flat_map pair_words pairs
words_with number size (lines.Done control well) = codes "done" ∷ control ∷ truth_word well ∷ []
words_with number size (lines.Block control on) = codes "block" ∷ control ∷ truth_word on ∷ []
words_with number size lines.Tick = codes "tick" ∷ []
words_with number size lines.End = codes "end" ∷ []

-- its numbers are in decimal, without leading zeros: a moment or an association, and a size
abbrev pub number_word : RecLine → List ℕ
number_word (lines.At moment) = decimal moment
number_word (lines.Open a form) = decimal a.0
number_word (lines.Write a block comp value) = decimal a.0
number_word (lines.Pdu a hex) = decimal a.0
number_word (lines.Piece a hex) = decimal a.0
number_word (lines.Take a) = decimal a.0
number_word (lines.Lost a) = decimal a.0
number_word line = []

abbrev pub form_size : OpenForm → List ℕ
form_size (forms.Mms size) = decimal size
form_size form = []

abbrev pub size_word : RecLine → List ℕ
size_word (lines.Open a form) = form_size form
size_word line = []

abbrev pub form_words : OpenForm → List (List ℕ)
form_words form = form_with (form_size form) form

unfoldable pub words : RecLine → List (List ℕ)
words line = words_with (number_word line) (size_word line) line

abbrev pub spelled : RecLine → List ℕ
spelled line = join_with_byte 32 (words line)

-- with its newline
abbrev pub line_text : RecLine → List ℕ
line_text line = spelled line ++ 10 ∷ []
