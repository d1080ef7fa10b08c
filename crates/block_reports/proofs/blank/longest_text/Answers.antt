-- why `blank::longest_text` answers as its contract says
use Rattle.std.proofs.Common.{◌≡◌, ◌≤◌, ℕ, zero, suc, List, [], ◌∷◌, length, drop, arith, refl, subst, sym}
use Rattle.std.specs.List.{All}
use Rattle.std.proofs.lemmas.List.Elements.{All-cons, All-nil, All-weaker}
use Rattle.report_block.specs.declared.block.ReportBlock.{ReportBlock}
use Rattle.block_reports.specs.Blanks.{longest_text_in, AreShortTexts}
use Rattle.block_reports.proofs.blank.longest_text.Goals as goal

-- no text is longer than the longest
longest-short : (parts : List ReportBlock) → All (AreShortTexts (longest_text_in parts)) parts
longest-short [] = All-nil (AreShortTexts 0)
longest-short (p ∷ parts) =
    let all = longest_text_in (p ∷ parts) in
    let rest = All-weaker (AreShortTexts (longest_text_in parts)) (AreShortTexts all) (λ q h. (omega (arith, h.0), omega (arith, h.1))) parts (longest-short parts) in
    All-cons (AreShortTexts all) p parts (omega arith, omega arith) rest

-- nothing is left after the last
none-left : (parts : List ReportBlock) (i : ℕ) → length parts ≤ i → longest_text_in (drop i parts) ≡ 0
none-left [] zero h = refl
none-left [] (suc i) h = refl
none-left (p ∷ parts) zero h = absurd (omega (arith, h))
none-left (p ∷ parts) (suc i) h = none-left parts i (omega (arith, h))

pub returns-clause-short : goal.returns-clause-short
returns-clause-short c =
    let exact : c.loop-part.most ≡ longest_text_in c.args.parts.now = omega (arith, c.loop-part.invariant, none-left c.args.parts.now c.loop-part.part-index c.loop-part-test.false) in
    subst (λ n. All (AreShortTexts n) c.args.parts.now) (sym exact) (longest-short c.args.parts.now)
