-- A line among scripts is read exactly where a text spells it.
use Rattle.std.proofs.Common.{◌≡◌, ℕ, ◌≤◌, Bool, true, false, cond, not, List, [], ◌∷◌, ◌++◌, length, ◌==◌, refl, ap, subst, ◌∙◌, arith}
use Rattle.std.specs.Prelude.{Option, Some, None, Result, Ok, Err, codes}
use Rattle.std.specs.Fmt.{decimal}
use Rattle.std.specs.Str.{bytes_eq}
use Rattle.std.specs.List.{join_with_byte}
use Rattle.std.proofs.lemmas.Bool.{or_from, cond-false, le-ltb}
use Rattle.std.proofs.lemmas.Fmt.{length-decimal-le_succ}
use Rattle.std.proofs.lemmas.Slice.Eq.{bytes_eq-Decides}
use Rattle.sv_base.specs.declared.numbers.AssocNo.{AssocNo}
use Rattle.text_words.specs.Words.{behind}
use Rattle.text_words.specs.Numbers.{number_within}
use Rattle.text_words.proofs.WordLaws.{AreWords, split-joined, joined-printable, none-empty}
use Rattle.text_words.proofs.ReadWordLaws.{number-tells, behind-tells}
use Rattle.text_words.proofs.SpelledWordLaws.{number-within, decimal-word}
use Rattle.run_record.specs.Grammar.{IsAssoc, is_word, Spells}
use Rattle.run_record.specs.Judging.{keyword_at, known_at, tell_at, is_long, line_at}
use Rattle.run_record.specs.declared.fault.Kind.{Kind}
use Rattle.run_record.specs.declared.fault.Kind.TheVariants as kinds
use Rattle.run_record.specs.declared.line.RecLine.{RecLine}
use Rattle.run_record.proofs.WordLaws.{not-skipped}
use Rattle.run_record.proofs.ReadLaws.{line-read as record-line-read}
use Rattle.run_record.proofs.ToldLaws.{line-told as record-line-told}
use Rattle.script_lines.specs.declared.party.Party.TheVariants as parties
use Rattle.script_lines.specs.declared.line.ScriptLine.{ScriptLine}
use Rattle.script_lines.specs.declared.line.ScriptLine.TheVariants as scripts
use Rattle.script_lines.specs.Lines.{party_text, numbered_as, associated, mark_at, beside, script_line_at}
use Rattle.script_lines.specs.Grammar.{SpellsScript}

-- words of which the first one is no line's
unknown : (octet : ℕ) (octets : List ℕ) (more : List (List ℕ)) → length (join_with_byte 32 ((octet ∷ octets) ∷ more)) ≤ 140100 → AreWords ((octet ∷ octets) ∷ more)
    → keyword_at (octet ∷ octets) ≡ None → (octet == 35) ≡ false → line_at (join_with_byte 32 ((octet ∷ octets) ∷ more)) ≡ Err kinds.Word
unfolding line_at tell_at
unknown octet octets more short are none other =
    let key = octet ∷ octets in
    let text = join_with_byte 32 (key ∷ more) in
    let clear : is_long text ≡ false = or_from _ _ (le-ltb 140100 (length text) short) (ap not (joined-printable (key ∷ more) are)) in
    cond-false _ _ _ clear
    ∙ (cond-false _ _ _ (not-skipped octet octets more other)
    ∙ (ap tell_at (split-joined key more are)
    ∙ (cond-false _ _ _ (none-empty (key ∷ more) are)
    ∙ ap (λ k. known_at k more) none)))

-- ---- a text that spells a line is read as it

process-read : script_line_at (codes "script process") ≡ Ok (scripts.Begins parties.Process)
unfolding script_line_at mark_at line_at tell_at
process-read = refl

close-read : script_line_at (codes "close") ≡ Ok scripts.Closes
unfolding script_line_at mark_at line_at tell_at
close-read = refl

unknown-association : (n : ℕ) → n ≤ 16 → line_at (codes "script association" ++ 32 ∷ decimal n) ≡ Err kinds.Word
unknown-association n few =
    unknown 115 (codes "cript") (codes "association" ∷ decimal n ∷ [])
    (omega (arith, few, length-decimal-le_succ n (omega (arith, few))))
    ((omega arith, refl), ((omega arith, refl), (decimal-word n (omega (arith, few)), tt))) refl refl

marked : (n : ℕ) → 1 ≤ n → n ≤ 16 → mark_at (codes "script association" ++ 32 ∷ decimal n) ≡ Ok (scripts.Begins (parties.Association (record { 0 = n })))
unfolding mark_at
marked n some few = ap (numbered_as (decimal n)) (number-within 1 16 n some few (omega (arith, few)))

association-read : (a : AssocNo) → IsAssoc a → script_line_at (party_text (parties.Association a)) ≡ Ok (scripts.Begins (parties.Association a))
unfolding script_line_at
association-read a is = ap (beside (party_text (parties.Association a))) (unknown-association a.0 is.1) ∙ marked a.0 is.0 is.1

step-read : (text : List ℕ) (line : RecLine) → Spells text line → script_line_at text ≡ Ok (scripts.Step line)
unfolding script_line_at
step-read text line s = ap (beside text) (record-line-read text line s)

pub line-read : (text : List ℕ) (line : ScriptLine) → SpellsScript text line → script_line_at text ≡ Ok line
line-read text (scripts.Begins (parties.Association a)) s = ap script_line_at s.1 ∙ association-read a s.0
line-read text (scripts.Begins parties.Process) s = ap script_line_at s.1 ∙ process-read
line-read text scripts.Closes s = ap script_line_at s.1 ∙ close-read
line-read text (scripts.Step line) s = step-read text line s

-- ---- a text that is read as a line spells it

ok_is : (x line : ScriptLine) → ◌≡◌ {A = Result ScriptLine Kind} (Ok x) (Ok line) → x ≡ line
ok_is x line e = cc e

some_is : {A : Type 0} (b : Bool) (x y : A) → cond b (Some x) None ≡ Some y → (b ≡ true) × (x ≡ y)
some_is true x y e = (refl, cc e)
some_is false x y e = absurd (cc e)

numbered-told : (text word : List ℕ) (line : ScriptLine) (n : Option ℕ) → number_within 1 16 word ≡ n → text ≡ codes "script association " ++ word → numbered_as word n ≡ Ok line → SpellsScript text line
numbered-told text word line (Some m) found is told =
    let says = number-tells 1 16 word m found in
    subst (SpellsScript text) (ok_is (scripts.Begins (parties.Association (record { 0 = m }))) line told) ((says.1, says.2), is ∙ ap (λ (w : List ℕ). codes "script association " ++ w) says.0)
numbered-told text word line None found is told = no (is_word word) told
  where
    no : (b : Bool) → cond b (Err kinds.Number) (Err kinds.Word) ≡ Ok line → SpellsScript text line
    no true e = absurd (cc e)
    no false e = absurd (cc e)

associated-told : (text : List ℕ) (line : ScriptLine) (word : Option (List ℕ)) → behind (codes "script association ") text ≡ word → associated word ≡ Ok line → SpellsScript text line
associated-told text line None found told = absurd (cc told)
associated-told text line (Some word) found told = numbered-told text word line (number_within 1 16 word) refl (behind-tells (codes "script association ") text word found) told

mark-told : (text : List ℕ) (line : ScriptLine) → mark_at text ≡ Ok line → SpellsScript text line
unfolding mark_at
mark-told text line told = process (bytes_eq text (codes "script process")) refl told
  where
    close : (b : Bool) → bytes_eq text (codes "close") ≡ b → cond b (Ok scripts.Closes) (associated (behind (codes "script association ") text)) ≡ Ok line → SpellsScript text line
    close true is e = subst (SpellsScript text) (ok_is scripts.Closes line e) (tt, (bytes_eq-Decides text (codes "close")).0 is)
    close false is e = associated-told text line (behind (codes "script association ") text) refl e

    process : (b : Bool) → bytes_eq text (codes "script process") ≡ b
        → cond b (Ok (scripts.Begins parties.Process)) (cond (bytes_eq text (codes "close")) (Ok scripts.Closes) (associated (behind (codes "script association ") text))) ≡ Ok line
        → SpellsScript text line
    process true is e = subst (SpellsScript text) (ok_is (scripts.Begins parties.Process) line e) (tt, (bytes_eq-Decides text (codes "script process")).0 is)
    process false is e = close (bytes_eq text (codes "close")) refl e

beside-told : (text : List ℕ) (line : ScriptLine) (r : Result RecLine Kind) → line_at text ≡ r → beside text r ≡ Ok line → SpellsScript text line
beside-told text line (Ok step) is told = subst (SpellsScript text) (ok_is (scripts.Step step) line told) (record-line-told text step is)
beside-told text line (Err kinds.Word) is told = mark-told text line told
beside-told text line (Err kinds.Long) is told = absurd (cc told)
beside-told text line (Err kinds.Number) is told = absurd (cc told)
beside-told text line (Err kinds.Name) is told = absurd (cc told)
beside-told text line (Err kinds.State) is told = absurd (cc told)
beside-told text line (Err kinds.Value) is told = absurd (cc told)
beside-told text line (Err kinds.Hex) is told = absurd (cc told)
beside-told text line (Err kinds.NoEnd) is told = absurd (cc told)

pub line-told : (text : List ℕ) (line : ScriptLine) → script_line_at text ≡ Ok line → SpellsScript text line
unfolding script_line_at
line-told text line told = beside-told text line (line_at text) refl told
