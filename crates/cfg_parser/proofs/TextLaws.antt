-- A text is read line by line.
use Rattle.std.proofs.Common.{◌≡◌, ℕ, ◌<◌, false, List, [], ◌∷◌, ◌++◌, length, refl, sym, ap, ◌∙◌, subst, arith}
use Rattle.std.specs.Prelude.{◌==◌, Result, Ok, Err}
use Rattle.std.specs.List.{All}
use Rattle.std.proofs.lemmas.List.Splits.{slice_split_at, slice_split_none, length-slice_split}
use Rattle.cfg_parser.specs.declared.fault.Kind.{Kind}
use Rattle.cfg_parser.specs.declared.fault.LineFault.{LineFault}
use Rattle.cfg_parser.specs.declared.fault.LineFault.TheVariants as stops
use Rattle.cfg_parser.specs.declared.fault.CfgFault.{CfgFault}
use Rattle.cfg_parser.specs.declared.fault.CfgFault.TheVariants as faults
use Rattle.cfg_parser.specs.Reader.{Gives, GivesText}
use Rattle.cfg_lines.specs.declared.line.Line.{Line}
use Rattle.cfg_lines.specs.Before.{number_of}
use Rattle.cfg_parser.specs.Judging.{line_at}
use Rattle.cfg_parser.specs.Text.{pieces, numbered, told_at, ended_at, next_at, fault_at}

abbrev err_of : (A : Type 0) {F : Type 0} → F → Result A F
err_of A f = Err f

told-on : (before : List Line) (text : List ℕ) (more : List (List ℕ)) → 0 < length more
    → told_at before (text ∷ more) ≡ numbered (number_of before) (line_at before text) (λ line. told_at (line ∷ before) more)
told-on before text [] some = absurd (omega (arith, some))
told-on before text (next ∷ more) some = refl

pieces-some : (text : List ℕ) → 0 < length (pieces text)
pieces-some text = omega (arith, length-slice_split (λ b. b == 10) text)

-- a line and what follows it
pub told-line : (before : List Line) (text line after : List ℕ) → text ≡ line ++ 10 ∷ after → All (λ b. (b == 10) ≡ false) line
    → told_at before (pieces text) ≡ numbered (number_of before) (line_at before line) (λ told. told_at (told ∷ before) (pieces after))
told-line before text line after is none =
    ap (λ t. told_at before (pieces t)) is
    ∙ (ap (told_at before) (slice_split_at (λ b. b == 10) line 10 after none refl)
    ∙ told-on before line (pieces after) (pieces-some after))

-- what is left where there is no newline
pub told-rest : (before : List Line) (rest : List ℕ) → All (λ b. (b == 10) ≡ false) rest → told_at before (pieces rest) ≡ ended_at before rest
told-rest before rest none = ap (told_at before) (slice_split_none (λ b. b == 10) rest none)

-- a refusal of a line is one of the text
pub line-refused : {A : Type 0} (number : ℕ) (fault : LineFault) (read : Result Line Kind) (go : Line → Result A CfgFault) → Gives (err_of Line fault) read → GivesText (err_of A (fault_at number fault)) (numbered number read go)
line-refused number (stops.Refused kind) read go is = ap (λ r. numbered number r go) is
line-refused number stops.Memory read go is = tt

numbered-ok : (number : ℕ) (read : Result Line Kind) (before after : List Line) (more : List (List ℕ)) → numbered number read (λ line. Ok (line ∷ before)) ≡ Ok after
    → numbered number read (λ line. told_at (line ∷ before) more) ≡ told_at after more
numbered-ok number (Ok line) before after more is = let same : line ∷ before ≡ after = cc in ap (λ b. told_at b more) same
numbered-ok number (Err kind) before after more is = absurd cc

numbered-err : (number : ℕ) (read : Result Line Kind) (before : List Line) (fault : CfgFault) (more : List (List ℕ)) → numbered number read (λ line. Ok (line ∷ before)) ≡ Err fault
    → numbered number read (λ line. told_at (line ∷ before) more) ≡ Err fault
numbered-err number (Ok line) before fault more is = absurd cc
numbered-err number (Err kind) before fault more is = let same : faults.Refused number kind ≡ fault = cc in ap (λ f. Err f) same

pub told-next : (before after : List Line) (text line rest : List ℕ) → text ≡ line ++ 10 ∷ rest → All (λ b. (b == 10) ≡ false) line → next_at before line ≡ Ok after
    → told_at before (pieces text) ≡ told_at after (pieces rest)
told-next before after text line rest is none next = told-line before text line rest is none ∙ numbered-ok (number_of before) (line_at before line) before after (pieces rest) next

pub told-refused : (before : List Line) (text line rest : List ℕ) (fault : CfgFault) → text ≡ line ++ 10 ∷ rest → All (λ b. (b == 10) ≡ false) line
    → GivesText (err_of (List Line) fault) (next_at before line) → GivesText (err_of (List Line) fault) (told_at before (pieces text))
told-refused before text line rest (faults.Refused number kind) is none next =
    told-line before text line rest is none ∙ numbered-err (number_of before) (line_at before line) before (faults.Refused number kind) (pieces rest) next
told-refused before text line rest faults.Memory is none next = tt

pub refused-at : (fault : CfgFault) (read told : Result (List Line) CfgFault) → told ≡ read → GivesText (err_of (List Line) fault) read → GivesText (err_of (List Line) fault) told
refused-at fault read told is gives = subst (λ r. GivesText (err_of (List Line) fault) r) (sym is) gives
