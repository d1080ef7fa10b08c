-- The number of a name: its place in a list of names, counted from 0, of two that are the same the first one's.
use Rattle.std.specs.Prelude.{ℕ, Bool, List, Option, None, Some, if◌then◌else◌}
use Rattle.std.specs.Option.{option_or}
use Rattle.octet_rows.specs.Found.{place_in}

abbrev pub number_in : List (List ℕ) → List ℕ → Option ℕ
number_in = place_in

-- the number that a name was given, else the number n where it is the one that n is given to
abbrev pub number_or : Option ℕ → Bool → ℕ → Option ℕ
number_or given is_name n = option_or given (if is_name then Some n else None)
