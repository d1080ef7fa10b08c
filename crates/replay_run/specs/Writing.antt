-- How a text is written.
use Rattle.record_outcome.specs.declared.status.Status.{Status}
use Rattle.record_outcome.specs.declared.status.Status.TheVariants as statuses

-- a status where a text is written, and nothing read
abbrev pub IsOfWriting : Status → Type 0
IsOfWriting statuses.Ok = Unit {0}
IsOfWriting statuses.Memory = Unit {0}
IsOfWriting statuses.WriteFault = Unit {0}
IsOfWriting _ = ⊥
