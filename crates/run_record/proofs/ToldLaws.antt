-- A line that is read is spelled.
use Rattle.std.proofs.Common.{◌≡◌, ℕ, ◌%◌, ◌<◌, ◌≤◌, inl, inr, Bool, true, false, cond, ◌&&◌, not, List, [], ◌∷◌, length, nat_lt, ◌==◌, refl, sym, ap, subst, ◌∙◌, arith}
use Rattle.std.specs.Prelude.{Option, Some, None, Result, Ok, Err, codes}
use Rattle.std.specs.Fmt.{decimal}
use Rattle.std.specs.List.{list_all, list_any, flat_map, join_with_byte}
use Rattle.std.specs.Str.{bytes_eq}
use Rattle.std.proofs.lemmas.Bool.{and_parts, or_parts, not-false, ltb-true, ltb-false, eqb-true}
use Rattle.std.proofs.lemmas.List.Splits.{join_with_byte-slice_split}
use Rattle.std.proofs.lemmas.Slice.Eq.{bytes_eq-Decides}
use Rattle.sv_base.specs.declared.numbers.AssocNo.{AssocNo}
use Rattle.text_words.specs.Octets.{IsSkipped}
use Rattle.text_words.specs.Octets.{is_printable, is_skipped}
use Rattle.text_words.specs.Numbers.{number_within}
use Rattle.text_words.specs.Values.{is_graphic, truth_at}
use Rattle.text_words.specs.Words.{words_of}
use Rattle.text_words.specs.Spelled.{truth_word}
use Rattle.list_laws.proofs.Options.{some_is}
use Rattle.text_words.proofs.ReadWordLaws.{by-word, none-some, number-tells, truth-tells}
use Rattle.text_words.proofs.WordLaws.{split-words, are-words}
use Rattle.run_record.specs.Spelled.{form_words, pair_words, words, spelled}
use Rattle.run_record.specs.Grammar.{IsAssoc, IsForm, IsLine, is_word, IsText, Spells}
use Rattle.run_record.specs.Contents.{numbered, assoc_of, assoc_at, sized_form, form_at, opened, paired, set_at, truth_line, content_at}
use Rattle.run_record.specs.Judging.{keyword_at, known_at, tell_at, is_long, line_at}
use Rattle.run_record.specs.declared.fault.Kind.{Kind}
use Rattle.run_record.specs.declared.fault.Kind.TheVariants as kinds
use Rattle.run_record.specs.declared.keyword.Keyword.{Keyword}
use Rattle.run_record.specs.declared.keyword.Keyword.TheVariants as keywords
use Rattle.run_record.specs.declared.line.OpenForm.{OpenForm}
use Rattle.run_record.specs.declared.line.OpenForm.TheVariants as forms
use Rattle.run_record.specs.declared.line.RecLine.{RecLine}
use Rattle.run_record.specs.declared.line.RecLine.TheVariants as lines
use Rattle.run_record.proofs.WordLaws.{all-words}

abbrev ok_of : {A : Type 0} → A → Result A Kind
ok_of x = Ok x

ok_is : {A : Type 0} (x y : A) → ok_of x ≡ ok_of y → x ≡ y
ok_is x y e = cc

-- steps that may refuse
went : {A : Type 0} (b : Bool) (r : Result A Kind) (kind : Kind) (x : A) → cond b r (Err kind) ≡ Ok x → (b ≡ true) × (r ≡ Ok x)
went true r kind x e = (refl, e)
went false r kind x e = absurd cc

passed : {A : Type 0} (b : Bool) (r : Result A Kind) (kind : Kind) (x : A) → cond b (Err kind) r ≡ Ok x → (b ≡ false) × (r ≡ Ok x)
passed true r kind x e = absurd cc
passed false r kind x e = (refl, e)

-- the line has these words, and its numbers are in their ranges
abbrev Says : List (List ℕ) → RecLine → Type 0
Says told line = (words line ≡ told) × IsLine line

numbered-told : {A : Type 0} (o : Option A) (make : A → RecLine) (line : RecLine) → numbered o make ≡ Ok line → (n : A) × (o ≡ Some n) × (make n ≡ line)
numbered-told None make line e = absurd cc
numbered-told (Some n) make line e = (n, refl, ok_is (make n) line e)

assoc-tells : (word : List ℕ) (a : AssocNo) → assoc_at word ≡ Some a → (word ≡ decimal a.0) × IsAssoc a
assoc-tells word a e = by (number_within 1 16 word) refl e
  where
    by : (o : Option ℕ) → number_within 1 16 word ≡ o → assoc_of o ≡ Some a → (word ≡ decimal a.0) × IsAssoc a
    by None is found = absurd cc found
    by (Some n) is found = let told = number-tells 1 16 word n is in subst (λ a. (word ≡ decimal a.0) × IsAssoc a) (some_is _ a found) (told.0, (told.1, told.2))

assoc-told : (key word : List ℕ) (more : List (List ℕ)) (make : AssocNo → RecLine) (line : RecLine) → ((a : AssocNo) → IsAssoc a → Says (key ∷ decimal a.0 ∷ more) (make a))
    → numbered (assoc_at word) make ≡ Ok line → Says (key ∷ word ∷ more) line
assoc-told key word more make line each e =
    let n = numbered-told (assoc_at word) make line e in
    let is = assoc-tells word n.0 n.1 in
    subst (Says (key ∷ word ∷ more)) n.2 (subst (λ w. Says (key ∷ w ∷ more) (make n.0)) (sym is.0) (each n.0 is.1))

at-told : (word : List ℕ) (line : RecLine) → numbered (number_within 441763200000 4294967295999 word) lines.At ≡ Ok line → Says (codes "at" ∷ word ∷ []) line
unfolding words
at-told word line e =
    let n = numbered-told _ lines.At line e in
    let is = number-tells 441763200000 4294967295999 word n.0 n.1 in
    subst (Says (codes "at" ∷ word ∷ [])) n.2 (ap (λ w. codes "at" ∷ w ∷ []) (sym is.0), (is.1, is.2))

abbrev Names : List (List ℕ) → OpenForm → Type 0
Names told form = (told ≡ form_words form) × IsForm form

-- a word that is compared with a known one
compared : {A : Type 0} (Q : A → Type 0) (word known : List ℕ) (here rest : Result A Kind) (there : A) → (word ≡ known → here ≡ Ok there → Q there) → (rest ≡ Ok there → Q there) → cond (bytes_eq word known) here rest ≡ Ok there → Q there
compared Q word known here rest there one other is = by (bytes_eq word known) refl is
  where
    by : (b : Bool) → bytes_eq word known ≡ b → cond b here rest ≡ Ok there → Q there
    by true e found = one ((bytes_eq-Decides word known).0 e) found
    by false e found = other found

refused : {A : Type 0} (kind : Kind) (x : A) (Q : Type 0) → Err kind ≡ ok_of x → Q
refused kind x Q e = absurd cc

sized-tells : (size : List ℕ) (form : OpenForm) → sized_form (number_within 1024 65000 size) ≡ Ok form → Names (codes "mms" ∷ size ∷ []) form
sized-tells size form e = by (number_within 1024 65000 size) refl e
  where
    by : (o : Option ℕ) → number_within 1024 65000 size ≡ o → sized_form o ≡ Ok form → Names (codes "mms" ∷ size ∷ []) form
    by None is found = absurd cc found
    by (Some n) is found = let told = number-tells 1024 65000 size n is in
        subst (Names (codes "mms" ∷ size ∷ [])) (ok_is (forms.Mms n) form found) (ap (λ w. codes "mms" ∷ w ∷ []) told.0, (told.1, told.2))

pub form-tells : (told : List (List ℕ)) (form : OpenForm) → form_at told ≡ Ok form → Names told form
form-tells [] form e = absurd cc e
form-tells (word ∷ []) form e = compared (Names (word ∷ [])) word (codes "direct") _ _ form (λ is found. subst (Names (word ∷ [])) (ok_is forms.Direct form found) (ap (λ w. w ∷ []) is, tt))
    (compared (Names (word ∷ [])) word (codes "wire") _ _ form (λ is found. subst (Names (word ∷ [])) (ok_is forms.Wire form found) (ap (λ w. w ∷ []) is, tt)) (refused kinds.Word form (Names (word ∷ []) form))) e
form-tells (word ∷ size ∷ []) form e = compared (Names (word ∷ size ∷ [])) word (codes "mms") _ _ form (λ is found. subst (λ w. Names (w ∷ size ∷ []) form) (sym is) (sized-tells size form found))
    (refused kinds.Word form (Names (word ∷ size ∷ []) form)) e
form-tells (word ∷ size ∷ next ∷ more) form e = absurd cc e

open-told : (a : List ℕ) (told : List (List ℕ)) (line : RecLine) → opened (assoc_at a) (form_at told) ≡ Ok line → Says (codes "open" ∷ a ∷ told) line
unfolding words
open-told a told line e = by (form_at told) refl e
  where
    by : (r : Result OpenForm Kind) → form_at told ≡ r → opened (assoc_at a) r ≡ Ok line → Says (codes "open" ∷ a ∷ told) line
    by (Err kind) is found = absurd cc found
    by (Ok form) is found = let names = form-tells told form is in
        assoc-told (codes "open") a told (λ n. lines.Open n form) line (λ n of. (ap (λ ws. codes "open" ∷ decimal n.0 ∷ ws) (sym names.0), (of, names.1))) found

truth-told : (key control word : List ℕ) (make : Bool → RecLine) (line : RecLine) → ((b : Bool) → Says (key ∷ control ∷ truth_word b ∷ []) (make b)) → truth_line (truth_at word) make ≡ Ok line → Says (key ∷ control ∷ word ∷ []) line
truth-told key control word make line each e = by (truth_at word) refl e
  where
    by : (o : Option Bool) → truth_at word ≡ o → truth_line o make ≡ Ok line → Says (key ∷ control ∷ word ∷ []) line
    by None is found = absurd cc found
    by (Some b) is found = subst (Says (key ∷ control ∷ word ∷ [])) (ok_is (make b) line found) (subst (λ w. Says (key ∷ control ∷ w ∷ []) (make b)) (sym (truth-tells word b is)) (each b))

paired-back : (told : List (List ℕ)) → length told % 2 ≡ 0 → flat_map pair_words (paired told) ≡ told
paired-back [] even = refl
paired-back (name ∷ []) even = absurd (omega (arith, even))
paired-back (name ∷ value ∷ more) even = ap (λ ws. name ∷ value ∷ ws) (paired-back more (omega (arith, even)))

some-pair : (told : List (List ℕ)) → 0 < length told → length told % 2 ≡ 0 → 1 ≤ length (paired told)
some-pair [] some even = absurd (omega (arith, some))
some-pair (name ∷ []) some even = absurd (omega (arith, even))
some-pair (name ∷ value ∷ more) some even = omega arith

set-told : (told : List (List ℕ)) (line : RecLine) → set_at told ≡ Ok line → Says (codes "set" ∷ told) line
unfolding words
set-told told line e =
    let test = went (nat_lt 0 (length told) && (length told % 2 == 0)) _ kinds.Word line e in
    let both = and_parts (nat_lt 0 (length told)) (length told % 2 == 0) test.0 in
    let even = eqb-true (length told % 2) 0 both.1 in
    subst (Says (codes "set" ∷ told)) (ok_is (lines.Set (paired told)) line test.1) (ap (λ ws. codes "set" ∷ ws) (paired-back told even), some-pair told (ltb-true 0 (length told) both.0) even)

-- the first word
abbrev pub word_of : Keyword → List ℕ
word_of keywords.At = codes "at"
word_of keywords.Open = codes "open"
word_of keywords.Write = codes "write"
word_of keywords.Pdu = codes "pdu"
word_of keywords.Piece = codes "in"
word_of keywords.Take = codes "take"
word_of keywords.Lost = codes "lost"
word_of keywords.Set = codes "set"
word_of keywords.Done = codes "done"
word_of keywords.Block = codes "block"
word_of keywords.Tick = codes "tick"
word_of keywords.End = codes "end"

abbrev Spelled : List ℕ → Keyword → Type 0
Spelled word key = word ≡ word_of key

pub key-is : (word : List ℕ) (key : Keyword) → keyword_at word ≡ Some key → word ≡ word_of key
key-is word key =
    by-word (Spelled word) word (codes "at") keywords.At key _ (λ e. e)
    (by-word (Spelled word) word (codes "open") keywords.Open key _ (λ e. e)
    (by-word (Spelled word) word (codes "write") keywords.Write key _ (λ e. e)
    (by-word (Spelled word) word (codes "pdu") keywords.Pdu key _ (λ e. e)
    (by-word (Spelled word) word (codes "in") keywords.Piece key _ (λ e. e)
    (by-word (Spelled word) word (codes "take") keywords.Take key _ (λ e. e)
    (by-word (Spelled word) word (codes "lost") keywords.Lost key _ (λ e. e)
    (by-word (Spelled word) word (codes "set") keywords.Set key _ (λ e. e)
    (by-word (Spelled word) word (codes "done") keywords.Done key _ (λ e. e)
    (by-word (Spelled word) word (codes "block") keywords.Block key _ (λ e. e)
    (by-word (Spelled word) word (codes "tick") keywords.Tick key _ (λ e. e)
    (by-word (Spelled word) word (codes "end") keywords.End key _ (λ e. e)
    (none-some key (word ≡ word_of key)))))))))))))

content-told : (key : Keyword) (more : List (List ℕ)) (line : RecLine) → content_at key more ≡ Ok line → Says (word_of key ∷ more) line
unfolding content_at words
content-told keywords.At (word ∷ []) line e = at-told word line e
content-told keywords.Open (a ∷ form) line e = open-told a form line e
content-told keywords.Write (a ∷ block ∷ comp ∷ value ∷ []) line e = assoc-told (codes "write") a (block ∷ comp ∷ value ∷ []) (λ n. lines.Write n block comp value) line (λ n is. (refl, is)) e
content-told keywords.Pdu (a ∷ hex ∷ []) line e = assoc-told (codes "pdu") a (hex ∷ []) (λ n. lines.Pdu n hex) line (λ n is. (refl, is)) e
content-told keywords.Piece (a ∷ hex ∷ []) line e = assoc-told (codes "in") a (hex ∷ []) (λ n. lines.Piece n hex) line (λ n is. (refl, is)) e
content-told keywords.Take (a ∷ []) line e = assoc-told (codes "take") a [] lines.Take line (λ n is. (refl, is)) e
content-told keywords.Lost (a ∷ []) line e = assoc-told (codes "lost") a [] lines.Lost line (λ n is. (refl, is)) e
content-told keywords.Set more line e = set-told more line e
content-told keywords.Done (control ∷ well ∷ []) line e = truth-told (codes "done") control well (lines.Done control) line (λ b. (refl, tt)) e
content-told keywords.Block (control ∷ on ∷ []) line e = truth-told (codes "block") control on (lines.Block control) line (λ b. (refl, tt)) e
content-told keywords.Tick [] line e = subst (Says (codes "tick" ∷ [])) (ok_is lines.Tick line e) (refl, tt)
content-told keywords.End [] line e = subst (Says (codes "end" ∷ [])) (ok_is lines.End line e) (refl, tt)
content-told _ _ line e = absurd cc e

-- a line that has words is spelled by them
text-is : (text key : List ℕ) (more : List (List ℕ)) (line : RecLine) → words line ≡ key ∷ more → text ≡ spelled line → IsText text line
unfolding words
text-is text key more lines.Skip are is = absurd cc are
text-is text key more (lines.At moment) are is = is
text-is text key more (lines.Open a form) are is = is
text-is text key more (lines.Write a block comp value) are is = is
text-is text key more (lines.Pdu a hex) are is = is
text-is text key more (lines.Piece a hex) are is = is
text-is text key more (lines.Take a) are is = is
text-is text key more (lines.Lost a) are is = is
text-is text key more (lines.Set pairs) are is = is
text-is text key more (lines.Done control well) are is = is
text-is text key more (lines.Block control on) are is = is
text-is text key more lines.Tick are is = is
text-is text key more lines.End are is = is

skip-told : (text : List ℕ) → length text ≤ 140100 → list_all is_printable text ≡ true → is_skipped text ≡ true → Spells text lines.Skip
unfolding words
skip-told text short all skipped = record { short = short; text_ = by text refl skipped all; words_ = refl; ranges = tt }
  where
    by : (t : List ℕ) → text ≡ t → is_skipped t ≡ true → list_all is_printable t ≡ true → IsSkipped text
    by [] is skipped all = inl is
    by (octet ∷ rest) is skipped all = inr (rest, is ∙ ap (λ (o : ℕ). o ∷ rest) (eqb-true octet 35 skipped), (and_parts _ _ all).1)

tell-told : (text : List ℕ) (told : List (List ℕ)) (line : RecLine) → words_of text ≡ told → length text ≤ 140100 → list_all is_printable text ≡ true → tell_at told ≡ Ok line → Spells text line
unfolding tell_at
tell-told text [] line is short all e = absurd cc e
tell-told text (word ∷ more) line is short all e =
    let test = passed (list_any (λ w. length w == 0) (word ∷ more)) (known_at (keyword_at word) more) kinds.Word line e in
    let visible = subst (λ ws. list_all (λ w. list_all is_graphic w) ws ≡ true) is (split-words text all) in
    by (keyword_at word) refl (sym (join_with_byte-slice_split 32 text) ∙ ap (join_with_byte 32) is) (all-words (word ∷ more) (are-words (word ∷ more) visible test.0)) test.1
  where
    by : (o : Option Keyword) → keyword_at word ≡ o → text ≡ join_with_byte 32 (word ∷ more) → list_all is_word (word ∷ more) ≡ true → known_at o more ≡ Ok line → Spells text line
    by None key joined ws known = absurd cc known
    by (Some key) found joined ws known =
        let says = content-told key more line known in
        let are : words line ≡ word ∷ more = says.0 ∙ ap (λ (w : List ℕ). w ∷ more) (sym (key-is word key found)) in
        record { short = short; text_ = text-is text word more line are (joined ∙ ap (join_with_byte 32) (sym are)); words_ = ap (list_all is_word) are ∙ ws; ranges = says.1 }

pub line-told : (text : List ℕ) (line : RecLine) → line_at text ≡ Ok line → Spells text line
unfolding line_at
line-told text line e =
    let first = passed (is_long text) _ kinds.Long line e in
    let parts = or_parts (nat_lt 140100 (length text)) (not (list_all is_printable text)) first.0 in
    by (is_skipped text) refl (ltb-false 140100 (length text) parts.0) (not-false _ parts.1) first.1
  where
    by : (b : Bool) → is_skipped text ≡ b → length text ≤ 140100 → list_all is_printable text ≡ true → cond b (Ok lines.Skip) (tell_at (words_of text)) ≡ Ok line → Spells text line
    by true skipped short all found = subst (Spells text) (ok_is lines.Skip line found) (skip-told text short all skipped)
    by false skipped short all found = tell-told text (words_of text) line refl short all found
