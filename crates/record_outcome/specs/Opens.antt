-- What a line before the configuration is, and comes to.
use Rattle.std.specs.Prelude.{◌≡◌, ℕ, List, []}
use Rattle.run_record.specs.Judging.{number_of}
use Rattle.record_outcome.specs.Moves.{opening, configuring, Move, goes, stops}
use Rattle.record_outcome.specs.Openings.{opening_at, headed}
use Rattle.record_outcome.specs.declared.openings.Opened.{Opened}
use Rattle.record_outcome.specs.declared.openings.Opened.TheVariants as openeds
use Rattle.record_outcome.specs.declared.status.Status.TheVariants as statuses

abbrev pub OpensTo : Opened → ℕ → Move → Type 0
OpensTo openeds.Skip number move = move ≡ goes opening []
OpensTo openeds.Head number move = move ≡ goes (configuring number []) []
OpensTo (openeds.Refused kind) number move = move ≡ stops (statuses.Record number (number_of kind)) []

abbrev pub HeadedAs : Opened → List (List ℕ) → Type 0
HeadedAs opened words = (number : ℕ) → OpensTo opened number (headed number words)

abbrev pub Opens : Opened → List ℕ → Type 0
Opens opened line = (number : ℕ) → OpensTo opened number (opening_at number line)
