-- The line after others is refused exactly for the kind that the format has for it.
use Rattle.std.proofs.Common.{◌≡◌, ℕ, ◌≤◌, ◌⊎◌, ◌↔◌, inl, inr, Bool, true, false, cond, ◌&&◌, ◌||◌, not, List, [], ◌∷◌, length, nat_lt, ◌==◌, refl, sym, ap, subst, ◌∙◌, arith, true≢false}
use Rattle.std.specs.Prelude.{Option, Some, None, Ok, Err}
use Rattle.std.specs.List.{list_all, list_any, join_with_byte}
use Rattle.std.proofs.lemmas.Bool.{and_parts, and_from, or_parts, or_from, cond-true, cond-false, not-true, not_from_false, ltb-true, ltb-false, le-ltb, leb-false, lt-leb, eqb-true, false_from_ne_true}
use Rattle.std.proofs.lemmas.List.Splits.{join_with_byte-slice_split, length-slice_split}
use Rattle.text_words.specs.Octets.{is_printable, is_skipped, IsSkipped}
use Rattle.text_words.specs.Values.{is_graphic}
use Rattle.text_words.specs.Words.{words_of}
use Rattle.text_words.proofs.WordLaws.{IsWord, AreWords, split-joined, joined-printable, none-empty, split-words}
use Rattle.text_words.proofs.WordLaws as worded
use Rattle.cfg_lines.specs.declared.line.Line.{Line}
use Rattle.cfg_lines.specs.declared.line.Line.TheVariants as lines
use Rattle.cfg_parser.specs.declared.fault.Kind.{Kind}
use Rattle.cfg_parser.specs.declared.fault.Kind.TheVariants as kinds
use Rattle.cfg_parser.specs.declared.keyword.Keyword.{Keyword}
use Rattle.cfg_parser.specs.declared.keyword.Keyword.TheVariants as keywords
use Rattle.cfg_parser.specs.Kinds.{number_of}
use Rattle.cfg_parser.specs.Keywords.{keyword_at}
use Rattle.cfg_parser.specs.Judging.{has_long, counts, may_stand, is_full, has_many, keyed_at, known_at, skip_at, tell_at, line_at}
use Rattle.cfg_text.proofs.SpelledLineLaws.{line-keyed}
use Rattle.cfg_text.proofs.ReadLineLaws.{word_of, key-is}
use Rattle.cfg_laws.specs.Forms.{Form, words, is_word, HasCount, IsText}
use Rattle.cfg_laws.specs.Forms as forms
use Rattle.cfg_laws.specs.Lines.{IsLong, HasForm, HasRoom, IsJudged, IsRefusedLine}
use Rattle.cfg_laws.proofs.StepLaws.{err_of, refuses, nothing, if-right, if-wrong, if-done}
use Rattle.cfg_laws.proofs.LongLaws.{not-long, decide-long, long-read}
use Rattle.cfg_laws.proofs.FormLaws.{are-words, words-are, key-read, IsReal, Plain, plain, text-is, shape, Known, known}

-- a line of a form
keyed-judged : (before : List Line) (form : Form) (k : Known before form) (kind : Kind) → HasCount before form → (keyed_at before k.key k.more ≡ err_of Line kind) ↔ IsJudged before form (number_of kind)
unfolding keyed_at
keyed-judged before form k kind count =
    if-done (counts before k.key k.more) _ _ kind _ (k.count count)
    (if-right (may_stand before k.key k.more) _ kinds.Order kind _ _ k.stands
    (λ a. if-wrong (is_full before || has_many before k.key k.more) _ kinds.Many kind _ _ (there, back) (λ b. k.content kind)))
  where
    there : (is_full before || has_many before k.key k.more) ≡ false → HasRoom before form
    there e = let both = or_parts (is_full before) (has_many before k.key k.more) e in (leb-false 20000 (length before) both.0, k.few.0 both.1)

    back : HasRoom before form → (is_full before || has_many before k.key k.more) ≡ false
    back is = or_from _ _ (lt-leb 20000 (length before) is.0) (k.few.1 is.1)

short : (before : List Line) (text : List ℕ) → (IsLong before text → ⊥) → length text ≤ 1000
short before text never = ltb-false 1000 (length text) (false_from_ne_true (nat_lt 1000 (length text)) (λ e. never (inl (ltb-true 1000 (length text) e))))

abbrev spelled : Keyword → List (List ℕ) → List ℕ
spelled key more = join_with_byte 32 (word_of key ∷ more)

text-same : (before : List Line) (text : List ℕ) (form : Form) (k : Known before form) → Plain before text form → text ≡ spelled k.key k.more
text-same before text form k is = is.0 ∙ ap (join_with_byte 32) k.has

text-words : (before : List Line) (text : List ℕ) (form : Form) (k : Known before form) → Plain before text form → AreWords (word_of k.key ∷ k.more)
text-words before text form k is = are-words (word_of k.key ∷ k.more) (ap (list_all is_word) (sym k.has) ∙ is.1)

text-split : (before : List Line) (text : List ℕ) (form : Form) (k : Known before form) → Plain before text form → words_of text ≡ word_of k.key ∷ k.more
text-split before text form k is = ap words_of (text-same before text form k is) ∙ split-joined (word_of k.key) k.more (text-words before text form k is)

line-is : (before : List Line) (text : List ℕ) (form : Form) (k : Known before form) → (IsLong before text → ⊥) → Plain before text form → line_at before text ≡ keyed_at before k.key k.more
line-is before text form k never is =
    let same = text-same before text form k is in
    let long = ap (λ o. has_long before o k.more) (sym (key-read k.key)) ∙ not-long before text (word_of k.key) k.more never (text-split before text form k is) in
    ap (line_at before) same
    ∙ line-keyed before (word_of k.key) k.more k.key (keyed_at before k.key k.more) (text-words before text form k is) (key-read k.key) (subst (λ t. length t ≤ 1000) same (short before text never)) k.other long refl

-- an empty line or a remark
skipped-printable : (text : List ℕ) → IsSkipped text → (is_skipped text ≡ true) × (list_all is_printable text ≡ true)
skipped-printable text (inl e) = (ap is_skipped e, ap (list_all is_printable) e)
skipped-printable text (inr r) = (ap is_skipped r.1, ap (list_all is_printable) r.1 ∙ r.2)

printable-skipped : (text : List ℕ) → is_skipped text ≡ true → list_all is_printable text ≡ true → IsSkipped text
printable-skipped [] skipped all = inl refl
printable-skipped (octet ∷ rest) skipped all = inr (rest, ap (λ (o : ℕ). o ∷ rest) (eqb-true octet 35 skipped), (and_parts _ _ all).1)

skip-is : (before : List Line) (text : List ℕ) → (IsLong before text → ⊥) → is_skipped text ≡ true → line_at before text ≡ skip_at before text
unfolding line_at
skip-is before text never skipped = cond-false _ _ _ (le-ltb 1000 (length text) (short before text never)) ∙ cond-true _ _ _ skipped

skip-judged : (before : List Line) (text : List ℕ) (kind : Kind) → (IsLong before text → ⊥) → IsSkipped text → (line_at before text ≡ err_of Line kind) ↔ IsJudged before forms.Skip (number_of kind)
unfolding skip_at
skip-judged before text kind never is =
    let all = skipped-printable text is in
    let step = if-done (list_all is_printable text) (cond (is_full before) (Err kinds.Many) (Ok lines.Skip)) (Err kinds.Word) kind (IsJudged before forms.Skip (number_of kind)) all.1
    (if-right true (cond (is_full before) (Err kinds.Many) (Ok lines.Skip)) kinds.Order kind _ _ (λ e. tt, λ u. refl)
    (λ a. if-wrong (is_full before) (Ok lines.Skip) kinds.Many kind (HasRoom before forms.Skip) ⊥ (λ e. (leb-false 20000 (length before) e, tt), λ r. lt-leb 20000 (length before) r.0) (λ b. nothing lines.Skip kind))) in
    (λ e. step.0 (sym (skip-is before text never all.0) ∙ e), λ j. skip-is before text never all.0 ∙ step.1 j)

-- any form
form-judged : (before : List Line) (text : List ℕ) (form : Form) (kind : Kind) → (IsLong before text → ⊥) → IsReal form → IsText before text form → (line_at before text ≡ err_of Line kind) ↔ IsJudged before form (number_of kind)
form-judged before text form kind never real is =
    let k = known before form real in
    let p = plain before text form real is in
    let read = line-is before text form k never p in
    let step = keyed-judged before form k kind p.2 in
    (λ e. step.0 (sym read ∙ e), λ j. read ∙ step.1 j)

-- a line that has no form
record Facts (before : List Line) (text first : List ℕ) (more : List (List ℕ)) : Type 0 where
  key : Keyword
  found : keyword_at first ≡ Some key
  count : counts before key more ≡ true
  clean : (list_all is_printable text && not (list_any (λ w. length w == 0) more)) ≡ true

real-facts : (before : List Line) (text first : List ℕ) (more : List (List ℕ)) (form : Form) → words_of text ≡ first ∷ more → IsReal form → IsText before text form → Facts before text first more
real-facts before text first more form is real of_form =
    let k = known before form real in
    let p = plain before text form real of_form in
    let are = text-words before text form k p in
    let both : word_of k.key ∷ k.more ≡ first ∷ more = sym (text-split before text form k p) ∙ is in
    let head : word_of k.key ≡ first = cc in
    let tail : k.more ≡ more = cc in
    record {
      key = k.key;
      found = ap keyword_at (sym head) ∙ key-read k.key;
      count = ap (counts before k.key) (sym tail) ∙ k.count p.2;
      clean = and_from _ _ (ap (list_all is_printable) (text-same before text form k p) ∙ joined-printable (word_of k.key ∷ k.more) are) (not_from_false _ (ap (list_any (λ w. length w == 0)) (sym tail) ∙ none-empty k.more are.1));
    }

-- the first words are words
key-word : (key : Keyword) → IsWord (word_of key)
key-word keywords.Config = (omega arith, refl)
key-word keywords.Server = (omega arith, refl)
key-word keywords.Ld = (omega arith, refl)
key-word keywords.Ln = (omega arith, refl)
key-word keywords.Attr = (omega arith, refl)
key-word keywords.Set = (omega arith, refl)
key-word keywords.Member = (omega arith, refl)
key-word keywords.Brcb = (omega arith, refl)
key-word keywords.Ctl = (omega arith, refl)
key-word keywords.Sgcb = (omega arith, refl)
key-word keywords.End = (omega arith, refl)

none-some : (key : Keyword) (Q : Type 0) → None ≡ Some key → Q
none-some key Q e = absurd cc e

some-is : (a b : Keyword) → Some a ≡ Some b → a ≡ b
some-is a b e = cc

no-words : (text : List ℕ) → words_of text ≡ [] → ⊥
no-words text e = omega (arith, length-slice_split (λ b. b == 32) text, ap length e)

-- either is empty or a remark, or is a line of words
skip-or-real : (form : Form) → (form ≡ forms.Skip) ⊎ IsReal form
skip-or-real forms.Skip = inl refl
skip-or-real (forms.Config version) = inr tt
skip-or-real (forms.Server vendor model revision) = inr tt
skip-or-real (forms.Ld name) = inr tt
skip-or-real (forms.Ln name) = inr tt
skip-or-real (forms.Attr fc path type_ flags values) = inr tt
skip-or-real (forms.Set name) = inr tt
skip-or-real (forms.Member reference) = inr tt
skip-or-real (forms.Brcb name rpt_id dat_set conf_rev opt_flds buf_tm trg_ops intg_pd capacity) = inr tt
skip-or-real (forms.Ctl path model timeout class type_) = inr tt
skip-or-real (forms.Sgcb count active) = inr tt
skip-or-real forms.End = inr tt

formed-judged : (before : List Line) (text : List ℕ) (form : Form) (kind : Kind) → (IsLong before text → ⊥) → IsText before text form → (line_at before text ≡ err_of Line kind) ↔ IsJudged before form (number_of kind)
formed-judged before text form kind never is = by (skip-or-real form)
  where
    by : (form ≡ forms.Skip) ⊎ IsReal form → (line_at before text ≡ err_of Line kind) ↔ IsJudged before form (number_of kind)
    by (inr real) = form-judged before text form kind never real is
    by (inl e) = subst (λ f. (line_at before text ≡ err_of Line kind) ↔ IsJudged before f (number_of kind)) (sym e) (skip-judged before text kind never (subst (IsText before text) e is))

facts : (before : List Line) (text first : List ℕ) (more : List (List ℕ)) → words_of text ≡ first ∷ more → is_skipped text ≡ false → HasForm before text → Facts before text first more
facts before text first more split real has = by (skip-or-real has.0)
  where
    by : (has.0 ≡ forms.Skip) ⊎ IsReal has.0 → Facts before text first more
    by (inr r) = real-facts before text first more has.0 split r has.1
    by (inl e) = absurd (true≢false (sym (skipped-printable text (subst (IsText before text) e has.1)).0 ∙ real))

form-printable : (before : List Line) (text : List ℕ) → is_skipped text ≡ true → HasForm before text → list_all is_printable text ≡ true
form-printable before text skipped has = by (skip-or-real has.0)
  where
    by : (has.0 ≡ forms.Skip) ⊎ IsReal has.0 → list_all is_printable text ≡ true
    by (inl e) = (skipped-printable text (subst (IsText before text) e has.1)).1
    by (inr r) =
        let k = known before has.0 r in
        let p = plain before text has.0 r has.1 in
        ap (list_all is_printable) (text-same before text has.0 k p) ∙ joined-printable (word_of k.key ∷ k.more) (text-words before text has.0 k p)

abbrev Formed : List Line → List ℕ → Type 0
Formed before text = HasForm before text ⊎ ((line_at before text ≡ err_of Line kinds.Word) × (HasForm before text → ⊥))

skip-formed : (before : List Line) (text : List ℕ) → (IsLong before text → ⊥) → is_skipped text ≡ true → Formed before text
unfolding skip_at
skip-formed before text never skipped = by (list_all is_printable text) refl
  where
    by : (b : Bool) → list_all is_printable text ≡ b → Formed before text
    by true all = inl (forms.Skip, printable-skipped text skipped all)
    by false other = inr (skip-is before text never skipped ∙ cond-false _ _ _ other, λ has. true≢false (sym (form-printable before text skipped has) ∙ other))

tell-is : (before : List Line) (text : List ℕ) → (IsLong before text → ⊥) → is_skipped text ≡ false → line_at before text ≡ tell_at before text (words_of text)
unfolding line_at
tell-is before text never real = cond-false _ _ _ (le-ltb 1000 (length text) (short before text never)) ∙ cond-false _ _ _ real

form-of : (before : List Line) (text first : List ℕ) (more : List (List ℕ)) (key : Keyword) → words_of text ≡ first ∷ more → list_all is_printable text ≡ true → list_any (λ w. length w == 0) more ≡ false
    → keyword_at first ≡ Some key → counts before key more ≡ true → HasForm before text
form-of before text first more key split all none found count =
    let s = shape before key more count in
    let word = key-is first key found in
    let visible = and_parts (list_all is_graphic first) (list_all (λ w. list_all is_graphic w) more) (ap (λ w. list_all (λ word. list_all is_graphic word) w) (sym split) ∙ split-words text all) in
    let are : AreWords (word_of key ∷ more) = (key-word key, worded.are-words more visible.1 none) in
    let same : text ≡ join_with_byte 32 (word_of key ∷ more) = sym (join_with_byte-slice_split 32 text) ∙ (ap (join_with_byte 32) split ∙ ap (λ w. join_with_byte 32 (w ∷ more)) word) in
    (s.form, text-is before text s.form s.real (same ∙ ap (join_with_byte 32) (sym s.has), ap (list_all is_word) s.has ∙ words-are (word_of key ∷ more) are, s.count))

words-formed : (before : List Line) (text first : List ℕ) (more : List (List ℕ)) → (IsLong before text → ⊥) → is_skipped text ≡ false → words_of text ≡ first ∷ more → Formed before text
unfolding tell_at keyed_at
words-formed before text first more never real split = clean (list_all is_printable text && not (list_any (λ w. length w == 0) more)) refl
  where
    has-facts : HasForm before text → Facts before text first more
    has-facts has = facts before text first more split real has

    told : tell_at before text (first ∷ more) ≡ cond (list_all is_printable text && not (list_any (λ w. length w == 0) more)) (known_at before (keyword_at first) more) (Err kinds.Word)
    told = cond-false _ _ _ (not-long before text first more never split)

    read : line_at before text ≡ cond (list_all is_printable text && not (list_any (λ w. length w == 0) more)) (known_at before (keyword_at first) more) (Err kinds.Word)
    read = tell-is before text never real ∙ (ap (tell_at before text) split ∙ told)

    counted : (key : Keyword) (b : Bool) → (list_all is_printable text && not (list_any (λ w. length w == 0) more)) ≡ true → keyword_at first ≡ Some key → counts before key more ≡ b → Formed before text
    counted key true is found count =
        let both = and_parts (list_all is_printable text) (not (list_any (λ w. length w == 0) more)) is in
        inl (form-of before text first more key split both.0 (not-true _ both.1) found count)
    counted key false is found count = inr (read ∙ (cond-true _ _ _ is ∙ (ap (λ k. known_at before k more) found ∙ cond-false _ _ _ count)), never-formed)
      where
        never-formed : HasForm before text → ⊥
        never-formed has =
            let f = has-facts has in
            let same : f.key ≡ key = some-is f.key key (sym f.found ∙ found) in
            true≢false (sym f.count ∙ (ap (λ k. counts before k more) same ∙ count))

    keyed : (o : Option Keyword) → (list_all is_printable text && not (list_any (λ w. length w == 0) more)) ≡ true → keyword_at first ≡ o → Formed before text
    keyed None is found = inr (read ∙ (cond-true _ _ _ is ∙ ap (λ k. known_at before k more) found), λ has. let f = has-facts has in none-some f.key ⊥ (sym found ∙ f.found))
    keyed (Some key) is found = counted key (counts before key more) is found refl

    clean : (b : Bool) → (list_all is_printable text && not (list_any (λ w. length w == 0) more)) ≡ b → Formed before text
    clean true is = keyed (keyword_at first) is refl
    clean false is = inr (read ∙ cond-false _ _ _ is, λ has. true≢false (sym (has-facts has).clean ∙ is))

formed : (before : List Line) (text : List ℕ) → (IsLong before text → ⊥) → Formed before text
unfolding tell_at
formed before text never = by (is_skipped text) refl
  where
    split : (ws : List (List ℕ)) → is_skipped text ≡ false → words_of text ≡ ws → Formed before text
    split (first ∷ more) real is = words-formed before text first more never real is
    split [] real is = absurd (no-words text is)

    by : (b : Bool) → is_skipped text ≡ b → Formed before text
    by true skipped = skip-formed before text never skipped
    by false real = split (words_of text) real refl

pub line-refused : (before : List Line) (text : List ℕ) (kind : Kind) → (line_at before text ≡ err_of Line kind) ↔ IsRefusedLine before text (number_of kind)
line-refused before text kind = (λ e. there e (decide-long before text), back)
  where
    unlong : line_at before text ≡ err_of Line kind → (IsLong before text → ⊥) → Formed before text → IsRefusedLine before text (number_of kind)
    unlong e never (inl has) = inr (never, inr (has.0, has.1, (formed-judged before text has.0 kind never has.1).0 e))
    unlong e never (inr none) = inr (never, inl (none.1, (refuses Line kinds.Word kind).0 (sym none.0 ∙ e)))

    there : line_at before text ≡ err_of Line kind → IsLong before text ⊎ (IsLong before text → ⊥) → IsRefusedLine before text (number_of kind)
    there e (inl long) = inl (long, (refuses Line kinds.Long kind).0 (sym (long-read before text long) ∙ e))
    there e (inr never) = unlong e never (formed before text never)

    worded_ : number_of kind ≡ 1 → (HasForm before text → ⊥) → Formed before text → line_at before text ≡ err_of Line kind
    worded_ k none (inl has) = absurd (none has)
    worded_ k none (inr read) = read.0 ∙ (refuses Line kinds.Word kind).1 k

    back : IsRefusedLine before text (number_of kind) → line_at before text ≡ err_of Line kind
    back (inl x) = long-read before text x.0 ∙ (refuses Line kinds.Long kind).1 x.1
    back (inr (never, inl x)) = worded_ x.1 x.0 (formed before text never)
    back (inr (never, inr (form, is, judged))) = (formed-judged before text form kind never is).1 judged
