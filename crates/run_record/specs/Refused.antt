-- The causes for which a line is refused. A line has the first of these kinds that there is a cause for.
use Rattle.std.specs.Prelude.{◌≡◌, ◌≤◌, ◌<◌, ◌⊎◌, ℕ, true, false, List, length}
use Rattle.std.specs.List.{list_all, join_with_byte}
use Rattle.text_words.specs.Octets.{IsSkipped}
use Rattle.text_words.specs.Octets.{is_printable}
use Rattle.run_record.specs.Spelled.{words_with}
use Rattle.run_record.specs.Grammar.{is_word, Spells}
use Rattle.run_record.specs.declared.line.RecLine.{RecLine}
use Rattle.run_record.specs.declared.line.RecLine.TheVariants as lines

-- a line of words, and a `set` with a pair
abbrev pub IsWhole : RecLine → Type 0
IsWhole lines.Skip = ⊥
IsWhole (lines.Set pairs) = 1 ≤ length pairs
IsWhole line = Unit {0}

-- the text is a line's but for its numbers
pub record HasForm (text : List ℕ) : Type 0 where
  pub line : RecLine
  pub number : List ℕ
  pub size : List ℕ
  pub whole : IsWhole line
  pub words_ : list_all is_word (words_with number size line) ≡ true
  pub text_ : text ≡ join_with_byte 32 (words_with number size line)

-- above the greatest length, or with an octet outside 20 to 7E
abbrev pub IsLong : List ℕ → Type 0
IsLong text = (140100 < length text) ⊎ (list_all is_printable text ≡ false)

-- with other words than any line
abbrev pub IsUnformed : List ℕ → Type 0
IsUnformed text = (IsLong text → ⊥) × (IsSkipped text → ⊥) × (HasForm text → ⊥)

-- with a word that is no number of its range
abbrev pub IsUnnumbered : List ℕ → Type 0
IsUnnumbered text = (IsLong text → ⊥) × HasForm text × ((line : RecLine) → Spells text line → ⊥)
