-- A line that a text spells is read.
use Rattle.std.proofs.Common.{◌≡◌, ℕ, ◌+◌, ◌%◌, ◌<◌, ◌≤◌, inl, inr, Bool, true, false, not, List, [], ◌∷◌, length, ◌==◌, refl, sym, ap, subst, ◌∙◌, arith}
use Rattle.std.specs.Prelude.{Some, Ok}
use Rattle.std.specs.Fmt.{decimal}
use Rattle.std.specs.List.{list_all, flat_map, join_with_byte}
use Rattle.std.proofs.lemmas.Bool.{and_from, or_from, cond-true, cond-false, le-ltb, lt-ltb, eq-eqb}
use Rattle.sv_base.specs.declared.numbers.AssocNo.{AssocNo}
use Rattle.text_words.specs.Octets.{IsSkipped}
use Rattle.text_words.specs.Octets.{is_printable}
use Rattle.text_words.specs.Values.{truth_at}
use Rattle.text_words.specs.Spelled.{truth_word}
use Rattle.text_words.proofs.WordLaws.{split-joined, joined-printable, none-empty}
use Rattle.text_words.proofs.SpelledWordLaws.{number-within}
use Rattle.run_record.specs.Spelled.{form_words, pair_words, words, spelled}
use Rattle.run_record.specs.Grammar.{IsAssoc, IsForm, is_word, Spells}
use Rattle.run_record.specs.Contents.{numbered, assoc_of, assoc_at, sized_form, form_at, opened, paired, set_at, truth_line, content_at}
use Rattle.run_record.specs.Judging.{keyword_at, known_at, tell_at, is_long, line_at}
use Rattle.run_record.specs.declared.keyword.Keyword.{Keyword}
use Rattle.run_record.specs.declared.keyword.Keyword.TheVariants as keywords
use Rattle.run_record.specs.declared.pairs.Pair.{Pair}
use Rattle.run_record.specs.declared.line.OpenForm.{OpenForm}
use Rattle.run_record.specs.declared.line.OpenForm.TheVariants as forms
use Rattle.run_record.specs.declared.line.RecLine.{RecLine}
use Rattle.run_record.specs.declared.line.RecLine.TheVariants as lines
use Rattle.run_record.proofs.WordLaws.{are-words, not-skipped}

not-long : (text : List ℕ) → length text ≤ 140100 → list_all is_printable text ≡ true → is_long text ≡ false
not-long text short all = or_from _ _ (le-ltb 140100 (length text) short) (ap not all)

-- a line of words is what the words after the first say
pub read-words : (octet : ℕ) (octets : List ℕ) (more : List (List ℕ)) (keyword : Keyword) → length (join_with_byte 32 ((octet ∷ octets) ∷ more)) ≤ 140100 → list_all is_word ((octet ∷ octets) ∷ more) ≡ true
    → keyword_at (octet ∷ octets) ≡ Some keyword → (octet == 35) ≡ false → line_at (join_with_byte 32 ((octet ∷ octets) ∷ more)) ≡ content_at keyword more
unfolding line_at tell_at
read-words octet octets more keyword short all key_is other =
    let key = octet ∷ octets in
    let are = are-words (key ∷ more) all in
    cond-false _ _ _ (not-long (join_with_byte 32 (key ∷ more)) short (joined-printable (key ∷ more) are))
    ∙ (cond-false _ _ _ (not-skipped octet octets more other)
    ∙ (ap tell_at (split-joined key more are)
    ∙ (cond-false _ _ _ (none-empty (key ∷ more) are)
    ∙ ap (λ k. known_at k more) key_is)))

from-words : (text : List ℕ) (line : RecLine) (octet : ℕ) (octets : List ℕ) (more : List (List ℕ)) (keyword : Keyword) → Spells text line → words line ≡ (octet ∷ octets) ∷ more → text ≡ spelled line
    → keyword_at (octet ∷ octets) ≡ Some keyword → (octet == 35) ≡ false → content_at keyword more ≡ Ok line → line_at text ≡ Ok line
from-words text line octet octets more keyword s has is key_is other content =
    let same : text ≡ join_with_byte 32 ((octet ∷ octets) ∷ more) = is ∙ ap (join_with_byte 32) has in
    ap line_at same ∙ (read-words octet octets more keyword (subst (λ t. length t ≤ 140100) same s.short) (ap (list_all is_word) (sym has) ∙ s.words_) key_is other ∙ content)

pub skip-read : (text : List ℕ) → length text ≤ 140100 → IsSkipped text → line_at text ≡ Ok lines.Skip
unfolding line_at
skip-read text short (inl is) = ap line_at is
skip-read text short (inr (rest, is, all)) = ap line_at is ∙ cond-false _ _ _ (not-long (35 ∷ rest) (subst (λ t. length t ≤ 140100) is short) all)

assoc-read : (a : AssocNo) (make : AssocNo → RecLine) → IsAssoc a → numbered (assoc_at (decimal a.0)) make ≡ Ok (make a)
assoc-read a make is = ap (λ o. numbered (assoc_of o) make) (number-within 1 16 a.0 is.0 is.1 (omega (arith, is.1)))

form-read : (form : OpenForm) → IsForm form → form_at (form_words form) ≡ Ok form
form-read forms.Direct is = refl
form-read (forms.Mms size) is = ap sized_form (number-within 1024 65000 size is.0 is.1 (omega (arith, is.1)))
form-read forms.Wire is = refl

truth-read : (b : Bool) (make : Bool → RecLine) → truth_line (truth_at (truth_word b)) make ≡ Ok (make b)
truth-read true make = refl
truth-read false make = refl

paired-read : (pairs : List Pair) → paired (flat_map pair_words pairs) ≡ pairs
paired-read [] = refl
paired-read (pair ∷ pairs) = ap (λ (ps : List Pair). pair ∷ ps) (paired-read pairs)

even-words : (pairs : List Pair) → length (flat_map pair_words pairs) ≡ length pairs + length pairs
even-words [] = refl
even-words (pair ∷ pairs) = omega (arith, even-words pairs)

pub set-read : (pairs : List Pair) → 1 ≤ length pairs → set_at (flat_map pair_words pairs) ≡ Ok (lines.Set pairs)
set-read pairs some =
    let count = even-words pairs in
    let there : 0 < length (flat_map pair_words pairs) = omega (arith, count, some) in
    let even : length (flat_map pair_words pairs) % 2 ≡ 0 = omega (arith, count) in
    cond-true _ _ _ (and_from _ _ (lt-ltb _ _ there) (eq-eqb _ _ even)) ∙ ap (λ ps. Ok (lines.Set ps)) (paired-read pairs)

pub line-read : (text : List ℕ) (line : RecLine) → Spells text line → line_at text ≡ Ok line
unfolding words content_at
line-read text lines.Skip s = skip-read text s.short s.text_
line-read text (lines.At moment) s = from-words text _ _ _ _ keywords.At s refl s.text_ refl refl
    (ap (λ o. numbered o lines.At) (number-within 441763200000 4294967295999 moment s.ranges.0 s.ranges.1 (omega (arith, s.ranges.1))))
line-read text (lines.Open a form) s = from-words text _ _ _ _ keywords.Open s refl s.text_ refl refl
    (ap (opened (assoc_at (decimal a.0))) (form-read form s.ranges.1) ∙ assoc-read a (λ n. lines.Open n form) s.ranges.0)
line-read text (lines.Write a block comp value) s = from-words text _ _ _ _ keywords.Write s refl s.text_ refl refl (assoc-read a (λ n. lines.Write n block comp value) s.ranges)
line-read text (lines.Pdu a hex) s = from-words text _ _ _ _ keywords.Pdu s refl s.text_ refl refl (assoc-read a (λ n. lines.Pdu n hex) s.ranges)
line-read text (lines.Piece a hex) s = from-words text _ _ _ _ keywords.Piece s refl s.text_ refl refl (assoc-read a (λ n. lines.Piece n hex) s.ranges)
line-read text (lines.Take a) s = from-words text _ _ _ _ keywords.Take s refl s.text_ refl refl (assoc-read a lines.Take s.ranges)
line-read text (lines.Lost a) s = from-words text _ _ _ _ keywords.Lost s refl s.text_ refl refl (assoc-read a lines.Lost s.ranges)
line-read text (lines.Set pairs) s = from-words text _ _ _ _ keywords.Set s refl s.text_ refl refl (set-read pairs s.ranges)
line-read text (lines.Done control well) s = from-words text _ _ _ _ keywords.Done s refl s.text_ refl refl (truth-read well (lines.Done control))
line-read text (lines.Block control on) s = from-words text _ _ _ _ keywords.Block s refl s.text_ refl refl (truth-read on (lines.Block control))
line-read text lines.Tick s = from-words text _ _ _ _ keywords.Tick s refl s.text_ refl refl refl
line-read text lines.End s = from-words text _ _ _ _ keywords.End s refl s.text_ refl refl refl
