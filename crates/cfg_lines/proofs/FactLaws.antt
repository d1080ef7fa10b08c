-- What the lines before a line say of it, with one more line.
use Rattle.std.proofs.Common.{◌≡◌, List, ◌∷◌, refl}
use Rattle.cfg_lines.specs.Facts.{facts_of, after}
use Rattle.cfg_lines.specs.declared.line.Line.{Line}
use Rattle.cfg_lines.specs.declared.line.Line.TheVariants as lines

pub facts-more : (line : Line) (before : List Line) → facts_of (line ∷ before) ≡ after line (facts_of before)
facts-more lines.Skip before = refl
facts-more lines.Config before = refl
facts-more (lines.Server vendor model revision) before = refl
facts-more (lines.Ld name) before = refl
facts-more (lines.Ln node) before = refl
facts-more (lines.Attr attr) before = refl
facts-more (lines.Set set) before = refl
facts-more (lines.Member reference) before = refl
facts-more (lines.Brcb block) before = refl
facts-more (lines.Ctl control) before = refl
facts-more (lines.Sgcb groups) before = refl
facts-more lines.End before = refl
