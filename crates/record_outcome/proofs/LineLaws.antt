-- The lines of a record, one after another.
use Rattle.std.proofs.Common.{◌≡◌, ◌≤◌, ◌<◌, ◌||◌, ℕ, suc, Bool, true, false, not, List, [], ◌∷◌, ◌++◌, length, ap, ◌∙◌, refl, arith, inl, inr, append_assoc}
use Rattle.std.specs.Prelude.{◌==◌, Ok, Err, nat_lt, nat_le, if◌then◌else◌}
use Rattle.std.specs.List.{list_all}
use Rattle.std.proofs.lemmas.Bool.{and_parts, leb-true}
use Rattle.std.proofs.lemmas.Bool.Decides.{eqb_tells}
use Rattle.std.proofs.lemmas.List.Elements.{All-nil, All-cons}
use Rattle.std.proofs.lemmas.List.Splits.{slice_split_at, slice_split_none, length-slice_split}
use Rattle.text_words.specs.Octets.{is_printable, is_skipped}
use Rattle.text_words.specs.Words.{words_of}
use Rattle.run_record.specs.Grammar.{Spells}
use Rattle.run_record.specs.Judging as judging
use Rattle.run_record.specs.Spelled.{spelled, line_text}
use Rattle.run_record.specs.declared.fault.Kind.TheVariants as kinds
use Rattle.run_record.specs.declared.line.RecLine.{RecLine}
use Rattle.run_record.specs.declared.line.RecLine.TheVariants as lines
use Rattle.run_record.proofs.ReadLaws.{line-read}
use Rattle.run_record.proofs.WrittenLaws.{again}
use Rattle.record_outcome.specs.Moves.{Place}
use Rattle.record_outcome.specs.Records.{NoNewline, pieces, run, moved, has_begun, ended, line_at}

pub pieces-some : (octets : List ℕ) → 0 < length (pieces octets)
pieces-some octets = omega (arith, length-slice_split (λ b. b == 10) octets)

run-on : (long : Bool) (count : ℕ) (place : Place) (line : List ℕ) (more : List (List ℕ)) → 0 < length more
    → run long count place (line ∷ more) ≡ moved (line_at (suc count) place line) (λ to. run long (suc count) to more)
run-on long count place line [] some = absurd (omega (arith, some))
run-on long count place line (next ∷ more) some = refl

-- a line, and what follows it
pub run-line : (long : Bool) (count : ℕ) (place : Place) (line more : List ℕ) → NoNewline line
    → run long count place (pieces (line ++ 10 ∷ more)) ≡ moved (line_at (suc count) place line) (λ to. run long (suc count) to (pieces more))
run-line long count place line more none =
    ap (run long count place) (slice_split_at (λ b. b == 10) line 10 more none refl) ∙ run-on long count place line (pieces more) (pieces-some more)

-- no line is left
pub run-rest : (long : Bool) (count : ℕ) (place : Place) (rest : List ℕ) → NoNewline rest → run long count place (pieces rest) ≡ record { status = ended long (has_begun rest) (suc count) place; text = [] }
run-rest long count place rest none = ap (run long count place) (slice_split_none (λ b. b == 10) rest none)

-- ---- a line that is written

-- what is printed is no newline
abbrev pub NoTen : ℕ → Type 0
NoTen b = (b == 10) ≡ false

not-ten : (x : ℕ) → is_printable x ≡ true → NoTen x
not-ten x e =
    let low : 32 ≤ x = leb-true 32 x (and_parts (nat_le 32 x) (nat_le x 126) e).0 in
    elim (eqb_tells x 10) [ inl t ↦ absurd (omega (arith, t.1, low)) | inr t ↦ t.0 ]

pub no-newline : (octets : List ℕ) → list_all is_printable octets ≡ true → NoNewline octets
no-newline [] e = All-nil NoTen
no-newline (x ∷ xs) e = let both = and_parts (is_printable x) (list_all is_printable xs) e in All-cons NoTen x xs (not-ten x both.0) (no-newline xs both.1)

-- a line that is read has none
line-clean : (text : List ℕ) (line : RecLine) → judging.line_at text ≡ Ok line → NoNewline text
unfolding judging.line_at
line-clean text line reads = no-newline text (by (nat_lt 140100 (length text)) (list_all is_printable text) reads) where
  by : (a b : Bool) → (if a || not b then Err kinds.Long else if is_skipped text then Ok lines.Skip else judging.tell_at (words_of text)) ≡ Ok line → b ≡ true
  by true b e = absurd cc
  by false true e = refl
  by false false e = absurd cc

pub written-again : (text : List ℕ) (line : RecLine) → Spells text line → judging.line_at (spelled line) ≡ Ok line
written-again text line s = line-read (spelled line) line (again text line s)

-- it is the next line, whatever follows
pub written-next : (text : List ℕ) (line : RecLine) (rest : List ℕ) → Spells text line → pieces (line_text line ++ rest) ≡ spelled line ∷ pieces rest
written-next text line rest s =
    ap pieces (append_assoc (spelled line) (10 ∷ []) rest) ∙ slice_split_at (λ b. b == 10) (spelled line) 10 rest (line-clean (spelled line) line (written-again text line s)) refl
