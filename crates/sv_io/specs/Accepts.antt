-- How many connections were accepted.
use Rattle.std.specs.Prelude.{ℕ, ◌≡◌, ◌+◌, ◌<◌, ◌-◌, ◌^◌, Result, MatchResult}

-- one more at each connection and at no other time; at the counter's last value none is accepted
abbrev pub CountsAccept : {T E : Type 0} → ℕ → ℕ → Result T E → Type 0
CountsAccept before now result = MatchResult result (λ _. (before < 2 ^ 64 - 1) × (now ≡ before + 1)) (λ _. now ≡ before)
