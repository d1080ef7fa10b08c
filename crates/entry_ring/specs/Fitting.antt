-- How many entries have to go for one more.
use Rattle.std.specs.Prelude.{ℕ, suc, ◌+◌, List, [], ◌∷◌, nat_le, if◌then◌else◌}
use Rattle.entry_ring.specs.Held.{Held, sizes}

-- the least number of oldest entries without which the others and n octets fit the capacity
abbrev pub least_for : ℕ → ℕ → List Held → ℕ
least_for capacity more [] = 0
least_for capacity more (e ∷ es) = if nat_le (sizes (e ∷ es) + more) capacity then 0 else suc (least_for capacity more es)
