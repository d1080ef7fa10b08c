-- What a line's octets are.
use Rattle.std.specs.Prelude.{◌≡◌, ℕ, ◌-◌, ◌%◌, ◌<◌, ◌≤◌, ◌==◌, ◌&&◌, ◌||◌, not, Bool, false, List, length, slice_index}
use Rattle.std.specs.List.{list_any, count_by}
use Rattle.text_words.specs.Octets.{is_printable}
use Rattle.text_words.specs.Words.{words_of}
use Rattle.run_record.specs.Judging.{is_long}

-- octet i stands in no line, or is a space after a space
abbrev pub is_fault : List ℕ → ℕ → Bool
is_fault line i = not (is_printable (slice_index line i)) || ((slice_index line (i - 1) == 32) && (slice_index line i == 32))

-- no octet from a on, before b, is a fault
abbrev pub IsFaultless : List ℕ → ℕ → ℕ → Type 0
IsFaultless line a b = (k : ℕ) → a ≤ k → k < b → is_fault line k ≡ false

-- a line that is neither too long nor has an octet that no line has, nor an empty word
abbrev pub is_clear : List ℕ → Bool
is_clear line = not (is_long line) && not (list_any (λ w. length w == 0) (words_of line))

-- the spaces are an odd count
abbrev pub has_odd_spaces : List ℕ → Bool
has_odd_spaces text = count_by (λ octet. octet == 32) text % 2 == 1
