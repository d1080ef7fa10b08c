-- The lines of octets, taken one after another.
use Rattle.std.proofs.Common.{◌≡◌, ◌<◌, ◌==◌, ℕ, List, [], ◌∷◌, ◌++◌, length, refl, ap, ◌∙◌, arith, append_assoc}
use Rattle.std.specs.List.{slice_split}
use Rattle.std.proofs.lemmas.List.Splits.{slice_split_at, length-slice_split}
use Rattle.record_outcome.specs.Histories.{ended_pieces, lines_of, octets_of}
use Rattle.record_outcome.specs.Records.{NoNewline}
use Rattle.record_outcome.specs.Grammar.{Each}

ended-more : (line : List ℕ) (ps : List (List ℕ)) → 0 < length ps → ended_pieces (line ∷ ps) ≡ line ∷ ended_pieces ps
ended-more line [] some = absurd (omega (arith, some))
ended-more line (p ∷ ps) some = refl

pub line-more : (line more : List ℕ) → NoNewline line → lines_of (line ++ 10 ∷ more) ≡ line ∷ lines_of more
line-more line more none =
    ap ended_pieces (slice_split_at (λ b. b == 10) line 10 more none refl)
    ∙ ended-more line (slice_split (λ b. b == 10) more) (omega (arith, length-slice_split (λ b. b == 10) more))

pub lines-more : (ls : List (List ℕ)) (more : List ℕ) → Each NoNewline ls → lines_of (octets_of ls ++ more) ≡ ls ++ lines_of more
lines-more [] more none = refl
lines-more (l ∷ ls) more none =
    ap lines_of (append_assoc (l ++ 10 ∷ []) (octets_of ls) more ∙ append_assoc l (10 ∷ []) (octets_of ls ++ more))
    ∙ (line-more l (octets_of ls ++ more) none.0 ∙ ap (λ (rest : List (List ℕ)). l ∷ rest) (lines-more ls more none.1))
