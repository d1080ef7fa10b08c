-- The words of a configuration's lines, and the texts of its lines.
use Rattle.std.specs.Prelude.{◌≡◌, ℕ, List, ◌∷◌, codes}
use Rattle.std.specs.List.{join_with_byte}
use Rattle.sv_base.specs.Same.{values_of}
use Rattle.text_words.specs.Spelled.{flags_word}
use Rattle.cfg_lines.specs.Spelled.{words}
use Rattle.cfg_lines.specs.declared.line.Line.{Line}
use Rattle.cfg_lines.specs.declared.line.Line.TheVariants as lines
use Rattle.text_words.specs.Grammar.{SpellsType, SpellValues}
use Rattle.text_words.specs.Octets.{IsSkipped}

-- The words of a line. Those of an attribute's type and values may be others than are written.
abbrev pub SpellWords : List (List ℕ) → Line → Type 0
SpellWords told (lines.Attr attr) = (kind : List ℕ) × (spelled : List (List ℕ)) × SpellsType kind attr.kind × SpellValues spelled (values_of attr.values)
    × (told ≡ codes "attr" ∷ attr.fc ∷ attr.path ∷ kind ∷ flags_word attr.dchg attr.qchg attr.dupd ∷ spelled)
SpellWords told line = told ≡ words line

-- words are divided by one space
abbrev pub Spells : List ℕ → Line → Type 0
Spells text lines.Skip = IsSkipped text
Spells text line = (told : List (List ℕ)) × (text ≡ join_with_byte 32 told) × SpellWords told line
