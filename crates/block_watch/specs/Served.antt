-- The data sets that a bay can serve.
use Rattle.std.specs.Prelude.{◌<◌, ℕ, length}
use Rattle.sv_base.specs.declared.config.Config.{Config}
use Rattle.data_sets.specs.Books.{Book, set_at}
use Rattle.data_sets.specs.Standing.{data_set}
use Rattle.bay_config.specs.Servable.{IsServedSet}

-- each data set can be served
abbrev pub AreServedSets : Config → Book → Type 0
AreServedSets c book = (k : ℕ) → k < length book.sets → IsServedSet c (data_set (set_at book k))
