-- The number and the words of a status.
use Rattle.std.specs.Prelude.{ℕ, List, ◌++◌, codes, decimal}
use Rattle.record_outcome.specs.declared.status.Status.{Status}
use Rattle.record_outcome.specs.declared.status.Status.TheVariants as statuses

abbrev pub number_of : Status → ℕ
number_of statuses.Ok = 0
number_of statuses.Words = 1
number_of (statuses.Record line kind) = 2
number_of (statuses.Config line kind) = 3
number_of (statuses.Limit which line) = 4
number_of statuses.Memory = 5
number_of statuses.ReadFault = 6
number_of statuses.WriteFault = 7

abbrev pub words_of : Status → List ℕ
words_of statuses.Ok = codes "ok"
words_of statuses.Words = codes "words"
words_of (statuses.Record line kind) = codes "record line " ++ decimal line ++ codes " kind " ++ decimal kind
words_of (statuses.Config line kind) = codes "config line " ++ decimal line ++ codes " kind " ++ decimal kind
words_of (statuses.Limit which line) = codes "limit " ++ decimal which ++ codes " line " ++ decimal line
words_of statuses.Memory = codes "memory"
words_of statuses.ReadFault = codes "read"
words_of statuses.WriteFault = codes "write"
