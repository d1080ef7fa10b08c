-- The status of a record, and what the sink took.
use Rattle.std.specs.Prelude.{◌≡◌, ℕ, List, Option}
use Rattle.std.specs.Io.KnownBytes.{Appends}
use Rattle.record_outcome.specs.Records.{outcome}
use Rattle.record_outcome.specs.declared.status.Status.{Status}
use Rattle.record_outcome.specs.declared.status.Status.TheVariants as statuses

-- a status of a record
abbrev pub IsOfReplay : Status → Type 0
IsOfReplay statuses.Words = ⊥
IsOfReplay _ = Unit {0}

-- a status that the record's octets decide
abbrev pub IsJudgement : Status → Type 0
IsJudgement statuses.Ok = Unit {0}
IsJudgement (statuses.Record line kind) = Unit {0}
IsJudgement (statuses.Config line kind) = Unit {0}
IsJudgement (statuses.Limit which line) = Unit {0}
IsJudgement _ = ⊥

-- one with which something is refused
abbrev pub IsRefusal : Status → Type 0
IsRefusal (statuses.Record line kind) = Unit {0}
IsRefusal (statuses.Config line kind) = Unit {0}
IsRefusal (statuses.Limit which line) = Unit {0}
IsRefusal _ = ⊥

-- the status is that of the octets, and the sink took the answers to their lines up to where they end
abbrev pub Answers : List ℕ → Status → Option (List ℕ) → Option (List ℕ) → Type 0
Answers octets status old new = (status ≡ (outcome octets).status) × Appends old new (outcome octets).text
