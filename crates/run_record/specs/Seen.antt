-- What is seen in a text that is read in place: the line, with each word that is lent as its octets.
use Rattle.std.specs.Prelude.{ℕ, List, [], ◌∷◌, Option, Some, None, Result, Ok, Err}
use Rattle.std.specs.Borrow.{Bor}
use Rattle.text_words.specs.Words.{words_of}
use Rattle.run_record.specs.Contents.{paired}
use Rattle.run_record.specs.declared.fault.Kind.{Kind}
use Rattle.run_record.specs.declared.fault.Kind.TheVariants as kinds
use Rattle.run_record.specs.declared.words.Words.{Words}
use Rattle.run_record.specs.declared.view.LineView.{LineView}
use Rattle.run_record.specs.declared.view.LineView.TheVariants as views
use Rattle.run_record.specs.declared.view.PairView.{PairView}
use Rattle.run_record.specs.declared.view.PairsView.{PairsView}
use Rattle.run_record.specs.declared.pairs.Pair.{Pair}
use Rattle.run_record.specs.declared.line.RecLine.{RecLine}
use Rattle.run_record.specs.declared.line.RecLine.TheVariants as lines

-- the words of a text, of which there may be none left
abbrev pub words_in : Option (Bor (List ℕ)) → List (List ℕ)
words_in None = []
words_in (Some text) = words_of text.now

abbrev pub words_left : Words → List (List ℕ)
words_left words = words_in words.rest

-- the words, if there are just that many
abbrev pub one_of : List (List ℕ) → Option (List ℕ)
one_of (word ∷ []) = Some word
one_of _ = None

abbrev pub two_of : List (List ℕ) → Option (List ℕ × List ℕ)
two_of (word ∷ next ∷ []) = Some (word, next)
two_of _ = None

abbrev pub four_of : List (List ℕ) → Option (List ℕ × List ℕ × List ℕ × List ℕ)
four_of (word ∷ second ∷ third ∷ fourth ∷ []) = Some (word, second, third, fourth)
four_of _ = None

-- what n words say, if there are just that many
abbrev pub just : {A : Type 0} → Option A → (A → Result RecLine Kind) → Result RecLine Kind
just None tell = Err kinds.Word
just (Some words) tell = tell words

abbrev pub pair_seen : PairView → Pair
pair_seen pair = record { name = pair.name.now; value = pair.value.now }

-- the pairs that are left
abbrev pub pairs_seen : PairsView → List Pair
pairs_seen pairs = paired (words_left pairs.words)

abbrev pub line_seen : LineView → RecLine
line_seen views.Skip = lines.Skip
line_seen (views.At moment) = lines.At moment
line_seen (views.Open a form) = lines.Open a form
line_seen (views.Write a block comp value) = lines.Write a block.now comp.now value.now
line_seen (views.Pdu a hex) = lines.Pdu a hex.now
line_seen (views.Piece a hex) = lines.Piece a hex.now
line_seen (views.Take a) = lines.Take a
line_seen (views.Lost a) = lines.Lost a
line_seen (views.Set pairs) = lines.Set (pairs_seen pairs)
line_seen (views.Done control well) = lines.Done control.now well
line_seen (views.Block control on) = lines.Block control.now on
line_seen views.Tick = lines.Tick
line_seen views.End = lines.End

-- the line that is seen, or the kind for which there is none
abbrev pub seen : Result LineView Kind → Result RecLine Kind
seen (Ok view) = Ok (line_seen view)
seen (Err kind) = Err kind
