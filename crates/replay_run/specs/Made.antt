-- Which words ask for a made record.
use Rattle.std.specs.Prelude.{◌≡◌, ◌≤◌, ◌<◌, ◌^◌, ℕ, List, [], ◌∷◌, map, decimal, String}
use Rattle.std.specs.String.{string_bytes}
use Rattle.std.specs.declared.alloc.Global.{Global}

-- the words are this one, a seed and a count, in decimal without sign and leading zeros
abbrev pub Asks : List ℕ → List (String Global) → ℕ → ℕ → Type 0
Asks word words seed count = (map string_bytes words ≡ word ∷ decimal seed ∷ decimal count ∷ []) × (seed < 2 ^ 64) × (1 ≤ count) × (count ≤ 100000)
