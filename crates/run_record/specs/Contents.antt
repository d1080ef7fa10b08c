-- What the words after a line's first word say.
use Rattle.std.specs.Prelude.{ℕ, ◌==◌, ◌&&◌, ◌%◌, nat_lt, Bool, List, [], ◌∷◌, length, codes, Option, Some, None, Result, Ok, Err, if◌then◌else◌}
use Rattle.std.specs.Str.{bytes_eq}
use Rattle.text_words.specs.Numbers.{number_within}
use Rattle.text_words.specs.Values.{truth_at}
use Rattle.sv_base.specs.declared.numbers.AssocNo.{AssocNo}
use Rattle.run_record.specs.declared.fault.Kind.{Kind}
use Rattle.run_record.specs.declared.fault.Kind.TheVariants as kinds
use Rattle.run_record.specs.declared.keyword.Keyword.{Keyword}
use Rattle.run_record.specs.declared.keyword.Keyword.TheVariants as keywords
use Rattle.run_record.specs.declared.pairs.Pair.{Pair}
use Rattle.run_record.specs.declared.line.OpenForm.{OpenForm}
use Rattle.run_record.specs.declared.line.OpenForm.TheVariants as forms
use Rattle.run_record.specs.declared.line.RecLine.{RecLine}
use Rattle.run_record.specs.declared.line.RecLine.TheVariants as lines

-- the line that a number makes, if the word was one
abbrev pub numbered : {A : Type 0} → Option A → (A → RecLine) → Result RecLine Kind
numbered None make = Err kinds.Number
numbered (Some n) make = Ok (make n)

-- the association whose number it is
abbrev pub assoc_of : Option ℕ → Option AssocNo
assoc_of None = None
assoc_of (Some n) = Some (record { 0 = n })

abbrev pub assoc_at : List ℕ → Option AssocNo
assoc_at word = assoc_of (number_within 1 16 word)

-- the form that an association is opened in, with a number that its size is, or a word that is none
abbrev pub sized_form : Option ℕ → Result OpenForm Kind
sized_form None = Err kinds.Number
sized_form (Some size) = Ok (forms.Mms size)

abbrev pub form_at : List (List ℕ) → Result OpenForm Kind
form_at (form ∷ []) = if bytes_eq form (codes "direct") then Ok forms.Direct else if bytes_eq form (codes "wire") then Ok forms.Wire else Err kinds.Word
form_at (form ∷ size ∷ []) = if bytes_eq form (codes "mms") then sized_form (number_within 1024 65000 size) else Err kinds.Word
form_at _ = Err kinds.Word

abbrev pub opened : Option AssocNo → Result OpenForm Kind → Result RecLine Kind
opened a (Err kind) = Err kind
opened a (Ok form) = numbered a (λ n. lines.Open n form)

-- the words two by two
abbrev pub paired : List (List ℕ) → List Pair
paired (name ∷ value ∷ more) = record { name = name; value = value } ∷ paired more
paired _ = []

abbrev pub set_at : List (List ℕ) → Result RecLine Kind
set_at told = if nat_lt 0 (length told) && (length told % 2 == 0) then Ok (lines.Set (paired told)) else Err kinds.Word

-- the line that `T` or `F` makes
abbrev pub truth_line : Option Bool → (Bool → RecLine) → Result RecLine Kind
truth_line None make = Err kinds.Word
truth_line (Some b) make = Ok (make b)

-- what the words after the first say
unfoldable pub content_at : Keyword → List (List ℕ) → Result RecLine Kind
content_at keywords.At (moment ∷ []) = numbered (number_within 441763200000 4294967295999 moment) lines.At
content_at keywords.Open (a ∷ form) = opened (assoc_at a) (form_at form)
content_at keywords.Write (a ∷ block ∷ comp ∷ value ∷ []) = numbered (assoc_at a) (λ n. lines.Write n block comp value)
content_at keywords.Pdu (a ∷ hex ∷ []) = numbered (assoc_at a) (λ n. lines.Pdu n hex)
content_at keywords.Piece (a ∷ hex ∷ []) = numbered (assoc_at a) (λ n. lines.Piece n hex)
content_at keywords.Take (a ∷ []) = numbered (assoc_at a) lines.Take
content_at keywords.Lost (a ∷ []) = numbered (assoc_at a) lines.Lost
content_at keywords.Set told = set_at told
content_at keywords.Done (control ∷ well ∷ []) = truth_line (truth_at well) (lines.Done control)
content_at keywords.Block (control ∷ on ∷ []) = truth_line (truth_at on) (lines.Block control)
content_at keywords.Tick [] = Ok lines.Tick
content_at keywords.End [] = Ok lines.End
content_at _ _ = Err kinds.Word
