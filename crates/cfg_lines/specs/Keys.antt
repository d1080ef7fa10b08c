-- Octet rows that are there already.
use Rattle.std.specs.Prelude.{Vec, ℕ, Bool, List, [], ◌∷◌, ◌++◌, if◌then◌else◌}
use Rattle.std.specs.List.{list_any}
use Rattle.std.specs.Str.{bytes_eq}
use Rattle.std.specs.declared.alloc.Global.{Global}

abbrev pub is_among : List (List ℕ) → List ℕ → Bool
is_among keys key = list_any (λ k. bytes_eq key k) keys

-- with one more, if it isn't there
abbrev pub added : List (List ℕ) → List ℕ → List (List ℕ)
added keys key = if is_among keys key then keys else keys ++ key ∷ []

abbrev pub octets_of : Vec ℕ Global → List ℕ
octets_of v = v.items
