-- The octets of an address.
use Rattle.std.specs.Prelude.{◌≡◌, ◌≤◌, ℕ, ◌-◌, List, length, take, ◌++◌, replicate}

-- that many of the 64 octets, of which the others are 0
pub record IsAddress (len : ℕ) (octets : List ℕ) : Type 0 where
  pub least : 1 ≤ len
  pub most : len ≤ 64
  pub all : length octets ≡ 64
  pub rest : octets ≡ take len octets ++ replicate (64 - len) 0

-- 64 octets that begin with these
abbrev pub filled : List ℕ → List ℕ
filled row = row ++ replicate (64 - length row) 0
