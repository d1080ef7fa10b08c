-- A line is refused exactly for the causes of the format.
use Rattle.std.proofs.Common.{◌≡◌, ℕ, ◌≤◌, ◌⊎◌, inl, inr, Bool, true, false, cond, ◌&&◌, ◌||◌, not, ◌%◌, List, [], ◌∷◌, length, nat_lt, ◌==◌, refl, sym, ap, subst, ◌∙◌}
use Rattle.std.specs.Prelude.{Option, Some, None, Result, Ok, Err, codes}
use Rattle.std.specs.List.{list_all, list_any, flat_map, join_with_byte}
use Rattle.std.specs.Str.{bytes_eq}
use Rattle.std.proofs.lemmas.Bool.{or_parts, cond-true, ltb-true, ltb-false, lt-ltb, not-false}
use Rattle.std.proofs.lemmas.Slice.Eq.{bytes_eq-Decides}
use Rattle.std.proofs.lemmas.List.Splits.{join_with_byte-slice_split}
use Rattle.sv_base.specs.declared.numbers.AssocNo.{AssocNo}
use Rattle.text_words.specs.Octets.{IsSkipped}
use Rattle.text_words.specs.Octets.{is_printable, is_skipped}
use Rattle.text_words.specs.Numbers.{number_within}
use Rattle.text_words.specs.Values.{truth_at, is_graphic}
use Rattle.text_words.specs.Words.{words_of}
use Rattle.text_words.specs.Spelled.{truth_word}
use Rattle.text_words.proofs.WordLaws.{split-words, are-words as words-are}
use Rattle.run_record.specs.Spelled.{pair_words, form_with, form_words, form_size, words_with, number_word, size_word, words, spelled}
use Rattle.run_record.specs.Grammar.{is_word, Spells}
use Rattle.run_record.specs.Contents.{numbered, assoc_at, sized_form, form_at, opened, paired, set_at, truth_line, content_at}
use Rattle.run_record.specs.Judging.{keyword_at, known_at, tell_at, is_long, line_at}
use Rattle.run_record.specs.Refused.{IsWhole, HasForm, IsLong, IsUnformed, IsUnnumbered}
use Rattle.run_record.specs.declared.fault.Kind.{Kind}
use Rattle.run_record.specs.declared.fault.Kind.TheVariants as kinds
use Rattle.run_record.specs.declared.keyword.Keyword.{Keyword}
use Rattle.run_record.specs.declared.keyword.Keyword.TheVariants as keywords
use Rattle.run_record.specs.declared.pairs.Pair.{Pair}
use Rattle.run_record.specs.declared.line.OpenForm.{OpenForm}
use Rattle.run_record.specs.declared.line.OpenForm.TheVariants as forms
use Rattle.run_record.specs.declared.line.RecLine.{RecLine}
use Rattle.run_record.specs.declared.line.RecLine.TheVariants as lines
use Rattle.run_record.proofs.WordLaws.{all-words}
use Rattle.run_record.proofs.ReadLaws.{set-read, read-words, skip-read, line-read}
use Rattle.run_record.proofs.ToldLaws.{form-tells, word_of, key-is, line-told}

abbrev err_of : (A : Type 0) → Kind → Result A Kind
err_of A kind = Err kind

abbrev refused : Kind → Result RecLine Kind
refused kind = Err kind

-- octets
long-read : (text : List ℕ) → IsLong text → line_at text ≡ Err kinds.Long
unfolding line_at
long-read text (inl long) = cond-true _ _ _ (ap (λ b. b || not (list_all is_printable text)) (lt-ltb 140100 (length text) long))
long-read text (inr other) = cond-true _ _ _ (by (nat_lt 140100 (length text)))
  where
    by : (b : Bool) → (b || not (list_all is_printable text)) ≡ true
    by true = refl
    by false = ap not other

long-is : (text : List ℕ) → is_long text ≡ true → IsLong text
long-is text e = by (nat_lt 140100 (length text)) (list_all is_printable text) refl refl e
  where
    by : (a b : Bool) → nat_lt 140100 (length text) ≡ a → list_all is_printable text ≡ b → (a || not b) ≡ true → IsLong text
    by true b long other e = inl (ltb-true 140100 (length text) long)
    by false false long other e = inr other
    by false true long other e = absurd cc e

not-long : (text : List ℕ) → (IsLong text → ⊥) → is_long text ≡ false
not-long text never = by (is_long text) refl
  where
    by : (b : Bool) → is_long text ≡ b → is_long text ≡ false
    by true e = absurd (never (long-is text e))
    by false e = e

pub short : (text : List ℕ) → (IsLong text → ⊥) → length text ≤ 140100
short text never = ltb-false 140100 (length text) (or_parts (nat_lt 140100 (length text)) (not (list_all is_printable text)) (not-long text never)).0

printable : (text : List ℕ) → is_long text ≡ false → list_all is_printable text ≡ true
printable text e = not-false _ (or_parts (nat_lt 140100 (length text)) (not (list_all is_printable text)) e).1

-- words that have the form of a line are never refused as words
record Formed (told : List (List ℕ)) : Type 0 where
  octet : ℕ
  octets : List ℕ
  more : List (List ℕ)
  keyword : Keyword
  has : told ≡ (octet ∷ octets) ∷ more
  key_is : keyword_at (octet ∷ octets) ≡ Some keyword
  other : (octet == 35) ≡ false
  real : content_at keyword more ≡ refused kinds.Word → ⊥

number-not-word : {A : Type 0} (o : Option A) (make : A → RecLine) → numbered o make ≡ refused kinds.Word → ⊥
number-not-word None make e = absurd cc e
number-not-word (Some n) make e = absurd cc e

truth-not-word : (b : Bool) (make : Bool → RecLine) → truth_line (truth_at (truth_word b)) make ≡ refused kinds.Word → ⊥
truth-not-word true make e = absurd cc e
truth-not-word false make e = absurd cc e

form-not-word : (a : Option AssocNo) (size : List ℕ) (form : OpenForm) → opened a (form_at (form_with size form)) ≡ refused kinds.Word → ⊥
form-not-word a size forms.Direct e = number-not-word a (λ n. lines.Open n forms.Direct) e
form-not-word a size forms.Wire e = number-not-word a (λ n. lines.Open n forms.Wire) e
form-not-word a size (forms.Mms most) e = by (number_within 1024 65000 size) e
  where
    by : (o : Option ℕ) → opened a (sized_form o) ≡ refused kinds.Word → ⊥
    by None e = absurd cc e
    by (Some n) e = number-not-word a (λ m. lines.Open m (forms.Mms n)) e

set-not-word : (pairs : List Pair) → 1 ≤ length pairs → set_at (flat_map pair_words pairs) ≡ refused kinds.Word → ⊥
set-not-word pairs some e = let read = sym (set-read pairs some) ∙ e in absurd cc read

formed : (number size : List ℕ) (line : RecLine) → IsWhole line → Formed (words_with number size line)
unfolding content_at
formed number size lines.Skip whole = absurd whole
formed number size (lines.At moment) whole = record { octet = _; octets = _; more = _; keyword = keywords.At; has = refl; key_is = refl; other = refl; real = number-not-word _ lines.At }
formed number size (lines.Open a form) whole = record { octet = _; octets = _; more = _; keyword = keywords.Open; has = refl; key_is = refl; other = refl; real = form-not-word (assoc_at number) size form }
formed number size (lines.Write a block comp value) whole = record { octet = _; octets = _; more = _; keyword = keywords.Write; has = refl; key_is = refl; other = refl; real = number-not-word (assoc_at number) (λ n. lines.Write n block comp value) }
formed number size (lines.Pdu a hex) whole = record { octet = _; octets = _; more = _; keyword = keywords.Pdu; has = refl; key_is = refl; other = refl; real = number-not-word (assoc_at number) (λ n. lines.Pdu n hex) }
formed number size (lines.Piece a hex) whole = record { octet = _; octets = _; more = _; keyword = keywords.Piece; has = refl; key_is = refl; other = refl; real = number-not-word (assoc_at number) (λ n. lines.Piece n hex) }
formed number size (lines.Take a) whole = record { octet = _; octets = _; more = _; keyword = keywords.Take; has = refl; key_is = refl; other = refl; real = number-not-word (assoc_at number) lines.Take }
formed number size (lines.Lost a) whole = record { octet = _; octets = _; more = _; keyword = keywords.Lost; has = refl; key_is = refl; other = refl; real = number-not-word (assoc_at number) lines.Lost }
formed number size (lines.Set pairs) whole = record { octet = _; octets = _; more = _; keyword = keywords.Set; has = refl; key_is = refl; other = refl; real = set-not-word pairs whole }
formed number size (lines.Done control well) whole = record { octet = _; octets = _; more = _; keyword = keywords.Done; has = refl; key_is = refl; other = refl; real = truth-not-word well (lines.Done control) }
formed number size (lines.Block control on) whole = record { octet = _; octets = _; more = _; keyword = keywords.Block; has = refl; key_is = refl; other = refl; real = truth-not-word on (lines.Block control) }
formed number size lines.Tick whole = record { octet = _; octets = _; more = _; keyword = keywords.Tick; has = refl; key_is = refl; other = refl; real = λ e. absurd cc e }
formed number size lines.End whole = record { octet = _; octets = _; more = _; keyword = keywords.End; has = refl; key_is = refl; other = refl; real = λ e. absurd cc e }

not-word : (text : List ℕ) → (IsLong text → ⊥) → HasForm text → line_at text ≡ refused kinds.Word → ⊥
not-word text never f e =
    let told = formed f.number f.size f.line f.whole in
    let same : text ≡ join_with_byte 32 ((told.octet ∷ told.octets) ∷ told.more) = f.text_ ∙ ap (join_with_byte 32) told.has in
    told.real (sym (read-words told.octet told.octets told.more told.keyword (subst (λ t. length t ≤ 140100) same (short text never)) (ap (list_all is_word) (sym told.has) ∙ f.words_) told.key_is told.other)
    ∙ (ap line_at (sym same) ∙ e))

-- what is refused by its words, and what by its numbers
record Shape (told : List (List ℕ)) : Type 0 where
  line : RecLine
  number : List ℕ
  size : List ℕ
  whole : IsWhole line
  has : words_with number size line ≡ told

abbrev Refuses : List (List ℕ) → Kind → Type 0
Refuses told kind = (kind ≡ kinds.Word) ⊎ ((kind ≡ kinds.Number) × Shape told)

word-is : {A : Type 0} (kind : Kind) → err_of A kinds.Word ≡ err_of A kind → kind ≡ kinds.Word
word-is kind e = cc

number-is : {A : Type 0} (kind : Kind) → err_of A kinds.Number ≡ err_of A kind → kind ≡ kinds.Number
number-is kind e = cc

numbered-refused : {A : Type 0} (o : Option A) (make : A → RecLine) (kind : Kind) → numbered o make ≡ refused kind → kind ≡ kinds.Number
numbered-refused None make kind e = number-is kind e
numbered-refused (Some n) make kind e = absurd cc e

truth-refused : (o : Option Bool) (make : Bool → RecLine) (kind : Kind) → truth_line o make ≡ refused kind → kind ≡ kinds.Word
truth-refused None make kind e = word-is kind e
truth-refused (Some b) make kind e = absurd cc e

set-refused : (told : List (List ℕ)) (kind : Kind) → set_at told ≡ refused kind → kind ≡ kinds.Word
set-refused told kind e = by (nat_lt 0 (length told) && (length told % 2 == 0)) e
  where
    by : (b : Bool) → cond b (Ok (lines.Set (paired told))) (Err kinds.Word) ≡ refused kind → kind ≡ kinds.Word
    by true e = absurd cc e
    by false e = word-is kind e

-- any association
someone : AssocNo
someone = record { 0 = 1 }

abbrev Sized : List (List ℕ) → Type 0
Sized told = (size : List ℕ) × (form : OpenForm) × (form_with size form ≡ told)

sized : (form : OpenForm) → Sized (form_words form)
sized form = (form_size form, form, refl)

form-refused : (told : List (List ℕ)) (kind : Kind) → form_at told ≡ err_of OpenForm kind → (kind ≡ kinds.Word) ⊎ ((kind ≡ kinds.Number) × Sized told)
form-refused (word ∷ []) kind e = inl (by (bytes_eq word (codes "direct")) (bytes_eq word (codes "wire")) e)
  where
    by : (a b : Bool) → cond a (Ok forms.Direct) (cond b (Ok forms.Wire) (Err kinds.Word)) ≡ err_of OpenForm kind → kind ≡ kinds.Word
    by true b e = absurd cc e
    by false true e = absurd cc e
    by false false e = word-is kind e
form-refused (word ∷ size ∷ []) kind e = by (bytes_eq word (codes "mms")) (number_within 1024 65000 size) refl e
  where
    by : (a : Bool) (o : Option ℕ) → bytes_eq word (codes "mms") ≡ a → cond a (sized_form o) (Err kinds.Word) ≡ err_of OpenForm kind → (kind ≡ kinds.Word) ⊎ ((kind ≡ kinds.Number) × Sized (word ∷ size ∷ []))
    by true None is e = inr (number-is kind e, (size, forms.Mms 0, ap (λ w. w ∷ size ∷ []) (sym ((bytes_eq-Decides word (codes "mms")).0 is))))
    by true (Some n) is e = absurd cc e
    by false o is e = inl (word-is kind e)
form-refused _ kind e = inl (word-is kind e)

open-refused : (a : List ℕ) (told : List (List ℕ)) (kind : Kind) → opened (assoc_at a) (form_at told) ≡ refused kind → Refuses (codes "open" ∷ a ∷ told) kind
open-refused a told kind e = by (form_at told) refl e
  where
    shape : Sized told → Shape (codes "open" ∷ a ∷ told)
    shape s = record { line = lines.Open someone s.1; number = a; size = s.0; whole = tt; has = ap (λ ws. codes "open" ∷ a ∷ ws) s.2 }

    lifted : (other : Kind) → opened (assoc_at a) (Err other) ≡ refused kind → (other ≡ kinds.Word) ⊎ ((other ≡ kinds.Number) × Sized told) → Refuses (codes "open" ∷ a ∷ told) kind
    lifted other e (inl is) = inl (word-is kind (ap refused (sym is) ∙ e))
    lifted other e (inr s) = inr (number-is kind (ap refused (sym s.0) ∙ e), shape s.1)

    by : (r : Result OpenForm Kind) → form_at told ≡ r → opened (assoc_at a) r ≡ refused kind → Refuses (codes "open" ∷ a ∷ told) kind
    by (Err other) is e = lifted other e (form-refused told other is)
    by (Ok form) is e = inr (numbered-refused (assoc_at a) (λ n. lines.Open n form) kind e, shape (subst Sized (sym (form-tells told form is).0) (sized form)))

content-refused : (key : Keyword) (more : List (List ℕ)) (kind : Kind) → content_at key more ≡ refused kind → Refuses (word_of key ∷ more) kind
unfolding content_at
content-refused keywords.At (word ∷ []) kind e = inr (numbered-refused (number_within 441763200000 4294967295999 word) lines.At kind e, record { line = lines.At 0; number = word; size = []; whole = tt; has = refl })
content-refused keywords.Open (a ∷ form) kind e = open-refused a form kind e
content-refused keywords.Write (a ∷ block ∷ comp ∷ value ∷ []) kind e = inr (numbered-refused (assoc_at a) (λ n. lines.Write n block comp value) kind e, record { line = lines.Write someone block comp value; number = a; size = []; whole = tt; has = refl })
content-refused keywords.Pdu (a ∷ hex ∷ []) kind e = inr (numbered-refused (assoc_at a) (λ n. lines.Pdu n hex) kind e, record { line = lines.Pdu someone hex; number = a; size = []; whole = tt; has = refl })
content-refused keywords.Piece (a ∷ hex ∷ []) kind e = inr (numbered-refused (assoc_at a) (λ n. lines.Piece n hex) kind e, record { line = lines.Piece someone hex; number = a; size = []; whole = tt; has = refl })
content-refused keywords.Take (a ∷ []) kind e = inr (numbered-refused (assoc_at a) lines.Take kind e, record { line = lines.Take someone; number = a; size = []; whole = tt; has = refl })
content-refused keywords.Lost (a ∷ []) kind e = inr (numbered-refused (assoc_at a) lines.Lost kind e, record { line = lines.Lost someone; number = a; size = []; whole = tt; has = refl })
content-refused keywords.Set more kind e = inl (set-refused more kind e)
content-refused keywords.Done (control ∷ well ∷ []) kind e = inl (truth-refused (truth_at well) (lines.Done control) kind e)
content-refused keywords.Block (control ∷ on ∷ []) kind e = inl (truth-refused (truth_at on) (lines.Block control) kind e)
content-refused keywords.Tick [] kind e = absurd cc e
content-refused keywords.End [] kind e = absurd cc e
content-refused _ _ kind e = inl (word-is kind e)

tell-refused : (text : List ℕ) (told : List (List ℕ)) (kind : Kind) → words_of text ≡ told → list_all is_printable text ≡ true → tell_at told ≡ refused kind → (kind ≡ kinds.Word) ⊎ ((kind ≡ kinds.Number) × HasForm text)
unfolding tell_at
tell-refused text [] kind is all e = inl (word-is kind e)
tell-refused text (word ∷ more) kind is all e = by (list_any (λ w. length w == 0) (word ∷ more)) (keyword_at word) refl refl e
  where
    with-form : (key : Keyword) → keyword_at word ≡ Some key → list_all is_word (word ∷ more) ≡ true → Refuses (word_of key ∷ more) kind → (kind ≡ kinds.Word) ⊎ ((kind ≡ kinds.Number) × HasForm text)
    with-form key found ws (inl other) = inl other
    with-form key found ws (inr s) =
        let are : words_with s.1.number s.1.size s.1.line ≡ word ∷ more = s.1.has ∙ ap (λ (w : List ℕ). w ∷ more) (sym (key-is word key found)) in
        inr (
          s.0,
          record {
            line = s.1.line;
            number = s.1.number;
            size = s.1.size;
            whole = s.1.whole;
            words_ = ap (list_all is_word) are ∙ ws;
            text_ = sym (join_with_byte-slice_split 32 text) ∙ (ap (join_with_byte 32) is ∙ ap (join_with_byte 32) (sym are));
          },
        )

    by : (b : Bool) (o : Option Keyword) → list_any (λ w. length w == 0) (word ∷ more) ≡ b → keyword_at word ≡ o → cond b (Err kinds.Word) (known_at o more) ≡ refused kind → (kind ≡ kinds.Word) ⊎ ((kind ≡ kinds.Number) × HasForm text)
    by true o empty found e = inl (word-is kind e)
    by false None empty found e = inl (word-is kind e)
    by false (Some key) empty found e =
        let visible = subst (λ ws. list_all (λ w. list_all is_graphic w) ws ≡ true) is (split-words text all) in
        with-form key found (all-words (word ∷ more) (words-are (word ∷ more) visible empty)) (content-refused key more kind e)

abbrev Cause : List ℕ → Kind → Type 0
Cause text kind = ((kind ≡ kinds.Long) × IsLong text) ⊎ ((kind ≡ kinds.Word) ⊎ ((kind ≡ kinds.Number) × HasForm text))

long-kind : (kind : Kind) → refused kinds.Long ≡ refused kind → kind ≡ kinds.Long
long-kind kind e = cc

cause : (text : List ℕ) (kind : Kind) → line_at text ≡ refused kind → Cause text kind
unfolding line_at
cause text kind e = by (is_long text) (is_skipped text) refl e
  where
    by : (a b : Bool) → is_long text ≡ a → cond a (Err kinds.Long) (cond b (Ok lines.Skip) (tell_at (words_of text))) ≡ refused kind → Cause text kind
    by true b long e = inl (long-kind kind e, long-is text long)
    by false true long e = absurd cc e
    by false false long e = inr (tell-refused text (words_of text) kind refl (printable text long) e)

own : {text : List ℕ} (line : RecLine) → IsWhole line → text ≡ spelled line → Spells text line → HasForm text
unfolding words
own line whole is s = record { line = line; number = number_word line; size = size_word line; whole = whole; words_ = s.words_; text_ = is }

-- a line that is read has its form
spelled-form : (text : List ℕ) (line : RecLine) → Spells text line → IsSkipped text ⊎ HasForm text
unfolding words
spelled-form text lines.Skip s = inl s.text_
spelled-form text (lines.At moment) s = inr (own (lines.At moment) tt s.text_ s)
spelled-form text (lines.Open a form) s = inr (own (lines.Open a form) tt s.text_ s)
spelled-form text (lines.Write a block comp value) s = inr (own (lines.Write a block comp value) tt s.text_ s)
spelled-form text (lines.Pdu a hex) s = inr (own (lines.Pdu a hex) tt s.text_ s)
spelled-form text (lines.Piece a hex) s = inr (own (lines.Piece a hex) tt s.text_ s)
spelled-form text (lines.Take a) s = inr (own (lines.Take a) tt s.text_ s)
spelled-form text (lines.Lost a) s = inr (own (lines.Lost a) tt s.text_ s)
spelled-form text (lines.Set pairs) s = inr (own (lines.Set pairs) s.ranges s.text_ s)
spelled-form text (lines.Done control well) s = inr (own (lines.Done control well) tt s.text_ s)
spelled-form text (lines.Block control on) s = inr (own (lines.Block control on) tt s.text_ s)
spelled-form text lines.Tick s = inr (own lines.Tick tt s.text_ s)
spelled-form text lines.End s = inr (own lines.End tt s.text_ s)

-- the laws
pub long-told : (text : List ℕ) → line_at text ≡ Err kinds.Long → IsLong text
long-told text e = by (cause text kinds.Long e)
  where
    by : Cause text kinds.Long → IsLong text
    by (inl long) = long.1
    by (inr (inl is)) = absurd cc is
    by (inr (inr is)) = absurd (long-number is.0)
      where
        long-number : kinds.Long ≡ kinds.Number → ⊥
        long-number e = absurd cc e

pub long-refused : (text : List ℕ) → IsLong text → line_at text ≡ Err kinds.Long
long-refused = long-read

never-long : (text : List ℕ) (kind : Kind) → (kind ≡ kinds.Long → ⊥) → line_at text ≡ refused kind → IsLong text → ⊥
never-long text kind other e long = let same = sym e ∙ long-read text long in other (long-kind kind (sym same))

pub word-told : (text : List ℕ) → line_at text ≡ Err kinds.Word → IsUnformed text
word-told text e =
    let never = never-long text kinds.Word (λ is. absurd cc is) e in
    (never, (λ skipped. let read = sym (skip-read text (short text never) skipped) ∙ e in absurd cc read), (λ form. not-word text never form e))

pub number-told : (text : List ℕ) → line_at text ≡ Err kinds.Number → IsUnnumbered text
number-told text e = (never-long text kinds.Number (λ is. absurd cc is) e, by (cause text kinds.Number e), (λ line s. let read = sym (line-read text line s) ∙ e in absurd cc read))
  where
    by : Cause text kinds.Number → HasForm text
    by (inl long) = absurd cc long.0
    by (inr (inl is)) = absurd cc is
    by (inr (inr form)) = form.1

-- a text is refused as one of three kinds
pub other-told : (text : List ℕ) (kind : Kind) → (kind ≡ kinds.Long → ⊥) → (kind ≡ kinds.Word → ⊥) → (kind ≡ kinds.Number → ⊥) → line_at text ≡ Err kind → ⊥
other-told text kind not-long other-word not-number e = by (cause text kind e)
  where
    by : Cause text kind → ⊥
    by (inl long) = not-long long.0
    by (inr (inl is)) = other-word is
    by (inr (inr form)) = not-number form.0

pub word-refused : (text : List ℕ) → IsUnformed text → line_at text ≡ Err kinds.Word
word-refused text un = by (line_at text) refl
  where
    spelled : IsSkipped text ⊎ HasForm text → ⊥
    spelled (inl skipped) = un.1 skipped
    spelled (inr form) = un.2 form

    by : (r : Result RecLine Kind) → line_at text ≡ r → line_at text ≡ Err kinds.Word
    by (Ok line) e = absurd (spelled (spelled-form text line (line-told text line e)))
    by (Err kind) e = e ∙ ap refused (only (cause text kind e))
      where
        only : Cause text kind → kind ≡ kinds.Word
        only (inl long) = absurd (un.0 long.1)
        only (inr (inl is)) = is
        only (inr (inr form)) = absurd (un.2 form.1)

pub number-refused : (text : List ℕ) → IsUnnumbered text → line_at text ≡ Err kinds.Number
number-refused text un = by (line_at text) refl
  where
    by : (r : Result RecLine Kind) → line_at text ≡ r → line_at text ≡ Err kinds.Number
    by (Ok line) e = absurd (un.2 line (line-told text line e))
    by (Err kind) e = e ∙ ap refused (only (cause text kind e))
      where
        only : Cause text kind → kind ≡ kinds.Number
        only (inl long) = absurd (un.0 long.1)
        only (inr (inl is)) = absurd (not-word text un.0 un.1 (e ∙ ap refused is))
        only (inr (inr form)) = form.0
