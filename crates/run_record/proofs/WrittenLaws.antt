-- What is written of a line.
use Rattle.std.proofs.Common.{◌≡◌, ℕ, ◌≤◌, ◌⊎◌, inl, inr, List, length, refl, sym, ap, subst, arith}
use Rattle.run_record.specs.Spelled.{words, spelled}
use Rattle.run_record.specs.Grammar.{Spells}
use Rattle.run_record.specs.declared.line.RecLine.{RecLine}
use Rattle.run_record.specs.declared.line.RecLine.TheVariants as lines

-- a line has one text, but for an empty line and remarks
one-text : (text : List ℕ) (line : RecLine) → Spells text line → (text ≡ spelled line) ⊎ (line ≡ lines.Skip)
one-text text lines.Skip s = inr refl
one-text text (lines.At moment) s = inl s.text_
one-text text (lines.Open a form) s = inl s.text_
one-text text (lines.Write a block comp value) s = inl s.text_
one-text text (lines.Pdu a hex) s = inl s.text_
one-text text (lines.Piece a hex) s = inl s.text_
one-text text (lines.Take a) s = inl s.text_
one-text text (lines.Lost a) s = inl s.text_
one-text text (lines.Set pairs) s = inl s.text_
one-text text (lines.Done control well) s = inl s.text_
one-text text (lines.Block control on) s = inl s.text_
one-text text lines.Tick s = inl s.text_
one-text text lines.End s = inl s.text_

empty-line : Spells (spelled lines.Skip) lines.Skip
unfolding words
empty-line = record { short = omega arith; text_ = inl refl; words_ = refl; ranges = tt }

empty-length : length (spelled lines.Skip) ≡ 0
unfolding words
empty-length = refl

pub again : (text : List ℕ) (line : RecLine) → Spells text line → Spells (spelled line) line
again text line s = by (one-text text line s)
  where
    by : (text ≡ spelled line) ⊎ (line ≡ lines.Skip) → Spells (spelled line) line
    by (inl is) = subst (λ t. Spells t line) is s
    by (inr is) = subst (λ l. Spells (spelled l) l) (sym is) empty-line

pub shortest : (text : List ℕ) (line : RecLine) → Spells text line → length (spelled line) ≤ length text
shortest text line s = by (one-text text line s)
  where
    by : (text ≡ spelled line) ⊎ (line ≡ lines.Skip) → length (spelled line) ≤ length text
    by (inl is) = omega (arith, ap length is)
    by (inr is) = subst (λ l. length (spelled l) ≤ length text) (sym is) (omega (arith, empty-length))
