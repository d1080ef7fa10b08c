-- The words of a line, divided by spaces.
use Rattle.std.specs.Prelude.{ℕ, ◌==◌, List, length, take, drop, map, Option, Some, None, if◌then◌else◌}
use Rattle.std.specs.List.{slice_split}
use Rattle.std.specs.Borrow.{Bor}
use Rattle.std.specs.Str.{bytes_eq}

-- what stands between the spaces
abbrev pub words_of : List ℕ → List (List ℕ)
words_of line = slice_split (λ b. b == 32) line

-- the octets of borrowed words
abbrev pub texts : List (Bor (List ℕ)) → List (List ℕ)
texts words = map (λ w. w.now) words

-- what stands after a front
abbrev pub behind : List ℕ → List ℕ → Option (List ℕ)
behind front octets = if bytes_eq (take (length front) octets) front then Some (drop (length front) octets) else None
