-- What a line of a record does: the reading of the record goes on, or stops with a status.
use Rattle.std.specs.Prelude.{ℕ, List}
use Rattle.sv_base.specs.declared.config.Config.{Config}
use Rattle.record_outcome.specs.Played.{Played}
use Rattle.record_outcome.specs.declared.status.Status.{Status}

-- before the line `record 1`; among the lines of the configuration, whose octets so far these are, after n lines; or
-- among the steps of a bay
pub data Place : Type 0 where
  opening : Place
  configuring : (before : ℕ) → List ℕ → Place
  playing : Config → Played → Place

-- with what is answered to the line
pub data Move : Type 0 where
  goes : Place → List ℕ → Move
  stops : Status → List ℕ → Move
