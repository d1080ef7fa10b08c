-- Places in a circular buffer.
use Rattle.std.specs.Prelude.{ℕ, suc, ◌+◌, ◌-◌, nat_lt, if◌then◌else◌}

-- the place n octets after another, where a buffer has `capacity + 1` places
abbrev pub behind : ℕ → ℕ → ℕ → ℕ
behind capacity at len = if nat_lt capacity (at + len) then at + len - suc capacity else at + len

-- how far a place is after another
abbrev pub offset : ℕ → ℕ → ℕ → ℕ
offset capacity begin at = if nat_lt at begin then at + suc capacity - begin else at - begin
