-- Octets and numbers.
use Rattle.std.specs.Prelude.{◌≡◌, ℕ, ◌+◌, ◌*◌, ◌<◌, List, length, take, drop, fold, slice_index}

-- each is an octet
abbrev pub IsBytes : List ℕ → Type 0
IsBytes octets = (i : ℕ) → slice_index octets i < 256

-- octets as one number, the first the highest
abbrev pub big_endian : List ℕ → ℕ
big_endian octets = fold (λ n octet. n * 256 + octet) 0 octets

-- the part is what stands in the input from this place on
abbrev pub IsAt : List ℕ → ℕ → List ℕ → Type 0
IsAt input place part = part ≡ take (length part) (drop place input)
