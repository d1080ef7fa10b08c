-- What is left of a made record.
use Rattle.std.proofs.Common.{◌≡◌, ◌<◌, ◌+◌, ℕ, zero, suc, List, [], ◌∷◌, ◌++◌, length, refl, sym, ap, ◌∙◌, arith, append_assoc, length-append}
use Rattle.std.specs.Prelude.{codes}
use Rattle.made_records.specs.declared.draw.Draw.{Draw}
use Rattle.made_records.specs.declared.line.MadeLine.{MadeLine}
use Rattle.made_records.specs.declared.made_record.Part.{Part}
use Rattle.made_records.specs.declared.made_record.Part.TheVariants.{Opening, Lines, Nothing}
use Rattle.made_records.specs.Made.{line_by, next_draw, draw_after}
use Rattle.made_records.specs.Texts.{line_octets, line_text, lines_text, ending}
use Rattle.made_records.specs.Left.{octets_left}
use Rattle.made_records.proofs.Drawing.{after-next}

-- the lines of a piece, and those after it
lines-split : (n k m : ℕ) (d : Draw) → n ≡ k + m → lines_text n d ≡ lines_text k d ++ lines_text m (draw_after k d)
lines-split n zero m d is = let same : n ≡ m = omega (arith, is) in rw same refl
lines-split zero (suc k) m d is = absurd (omega (arith, is))
lines-split (suc n) (suc k) m d is = let same : n ≡ k + m = omega (arith, is) in
    ap (λ l. line_text (line_by d) ++ l) (lines-split n k m (next_draw d) same ∙ ap (λ e. lines_text k (next_draw d) ++ lines_text m e) (after-next k d))
    ∙ sym (append_assoc (line_text (line_by d)) (lines_text k (next_draw d)) (lines_text m (draw_after (suc k) d)))

end-behind : (n k m : ℕ) (d : Draw) → n ≡ k + m → lines_text n d ++ ending ≡ lines_text k d ++ (lines_text m (draw_after k d) ++ ending)
end-behind n k m d parts = ap (λ l. l ++ ending) (lines-split n k m d parts) ∙ append_assoc (lines_text k d) (lines_text m (draw_after k d)) ending

line-some : (l : MadeLine) → 0 < length (line_text l)
line-some l = omega (arith, length-append (line_octets l) (codes "\n"))

lines-some : (n : ℕ) (d : Draw) → 0 < n → 0 < length (lines_text n d)
lines-some zero d h = absurd (omega (arith, h))
lines-some (suc n) d h = omega (arith, line-some (line_by d), length-append (line_text (line_by d)) (lines_text n (next_draw d)))

-- what was left is a piece and what is left now, which is less
pub record Taken (was piece now : List ℕ) : Type 0 where
  pub joined : was ≡ piece ++ now
  pub less : length now < length was

pub take_lines : (p : Part) (d e : Draw) (n k m : ℕ) (was none piece : List ℕ) → p ≡ Lines → octets_left p d n ≡ was → n ≡ k + m → 0 < k → none ≡ [] → piece ≡ none ++ lines_text k d → e ≡ draw_after k d
    → Taken was piece (octets_left p e m)
take_lines p d e n k m was none piece p-is was-is parts some none-is piece-is e-is = rw (← was-is, p-is, e-is, piece-is, none-is) (record {
  joined = end-behind n k m d parts;
  less = rw (end-behind n k m d parts) (omega (arith, length-append (lines_text k d) (lines_text m (draw_after k d) ++ ending), lines-some k d some));
})

some-left : (l : List ℕ) → (l ++ ending ≡ [] → ⊥)
some-left [] h = absurd (cc)
some-left (x ∷ l) h = absurd (cc)

pub nothing_left : (p : Part) (d : Draw) (n : ℕ) → octets_left p d n ≡ [] → p ≡ Nothing
nothing_left Opening d n h = absurd (cc)
nothing_left Lines d n h = absurd (some-left (lines_text n d) h)
nothing_left Nothing d n h = refl
