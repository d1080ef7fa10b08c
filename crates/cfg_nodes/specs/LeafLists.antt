-- Nodes without parts, whose names and octets stand in two rows.
use Rattle.std.specs.Prelude.{ℕ, List, [], ◌∷◌}
use Rattle.cfg_lines.specs.declared.leaf.Leaf.{Leaf}

abbrev pub leaves_at : List (List ℕ) → List ℕ → List Leaf
leaves_at [] octets = []
leaves_at (name ∷ names) [] = []
leaves_at (name ∷ names) (count ∷ octets) = record { name = name; octets = count } ∷ leaves_at names octets
