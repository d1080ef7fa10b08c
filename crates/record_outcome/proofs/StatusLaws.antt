-- A status that the octets decide is one of a record, and no fault.
use Rattle.std.proofs.Common.{◌≡◌}
use Rattle.record_outcome.specs.Judgements.{IsJudgement, IsOfReplay}
use Rattle.record_outcome.specs.declared.status.Status.{Status}
use Rattle.record_outcome.specs.declared.status.Status.TheVariants as statuses

pub judged_replay : (s : Status) → IsJudgement s → IsOfReplay s
judged_replay statuses.Ok h = tt
judged_replay statuses.Words h = absurd h
judged_replay (statuses.Record line kind) h = tt
judged_replay (statuses.Config line kind) h = tt
judged_replay (statuses.Limit which line) h = tt
judged_replay statuses.Memory h = tt
judged_replay statuses.ReadFault h = tt
judged_replay statuses.WriteFault h = tt

pub judged_read : (s : Status) → IsJudgement s → s ≡ statuses.ReadFault → ⊥
judged_read statuses.Ok h e = cc
judged_read statuses.Words h e = absurd h
judged_read (statuses.Record line kind) h e = cc
judged_read (statuses.Config line kind) h e = cc
judged_read (statuses.Limit which line) h e = cc
judged_read statuses.Memory h e = absurd h
judged_read statuses.ReadFault h e = absurd h
judged_read statuses.WriteFault h e = absurd h

pub judged_write : (s : Status) → IsJudgement s → s ≡ statuses.WriteFault → ⊥
judged_write statuses.Ok h e = cc
judged_write statuses.Words h e = absurd h
judged_write (statuses.Record line kind) h e = cc
judged_write (statuses.Config line kind) h e = cc
judged_write (statuses.Limit which line) h e = cc
judged_write statuses.Memory h e = absurd h
judged_write statuses.ReadFault h e = absurd h
judged_write statuses.WriteFault h e = absurd h
