-- The text of several lines.
use Rattle.std.proofs.Common.{◌≡◌, List, [], ◌∷◌, ◌++◌, append_assoc, refl, sym, ap, ◌∙◌}
use Rattle.cfg_lines.specs.declared.line.Line.{Line}
use Rattle.cfg_writing.specs.Written.{line_text, text_of}

pub text-append : (xs ys : List Line) → text_of (xs ++ ys) ≡ text_of xs ++ text_of ys
text-append [] ys = refl
text-append (x ∷ xs) ys = ap (λ rest. line_text x ++ rest) (text-append xs ys) ∙ sym (append_assoc (line_text x) (text_of xs) (text_of ys))
