-- The numbers whose flag is set.
use Rattle.std.specs.Prelude.{ℕ, suc, Bool, List, [], ◌∷◌, if◌then◌else◌}

-- the flags stand in the order of their numbers, the first one's from k on
abbrev pub numbers_from : ℕ → List Bool → List ℕ
numbers_from k [] = []
numbers_from k (f ∷ fs) = if f then k ∷ numbers_from (suc k) fs else numbers_from (suc k) fs
