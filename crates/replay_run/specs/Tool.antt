-- What the program answers.
use Rattle.std.specs.Prelude.{ℕ, List, codes, String, ◌⊎◌}
use Rattle.std.specs.declared.alloc.Global.{Global}
use Rattle.command_line.specs.Words.{IsWord}
use Rattle.replay_run.specs.Made.{Asks}

abbrev pub IsReplay : List (String Global) → Type 0
IsReplay words = IsWord (codes "replay") words

abbrev pub IsCheck : List (String Global) → Type 0
IsCheck words = IsWord (codes "check") words

abbrev pub IsGen : List (String Global) → ℕ → ℕ → Type 0
IsGen words seed count = Asks (codes "gen") words seed count

abbrev pub IsLoad : List (String Global) → ℕ → ℕ → Type 0
IsLoad words seed count = Asks (codes "load") words seed count

-- some seed and count are asked for
abbrev pub IsSeeded : (ℕ → ℕ → Type 0) → Type 0
IsSeeded Asked = (seed : ℕ) × (count : ℕ) × Asked seed count

abbrev pub IsCommand : List (String Global) → Type 0
IsCommand words = IsReplay words ⊎ (IsCheck words ⊎ (IsSeeded (IsGen words) ⊎ IsSeeded (IsLoad words)))
