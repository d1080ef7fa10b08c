-- The first lines of records, as they are judged.
use Rattle.std.proofs.Common.{◌≡◌, [], refl}
use Rattle.std.specs.Prelude.{codes}
use Rattle.record_outcome.specs.Moves.{goes, stops, opening, configuring}
use Rattle.record_outcome.specs.Openings.{opening_at}
use Rattle.record_outcome.specs.declared.status.Status.TheVariants as statuses

head : opening_at 3 (codes "record 1") ≡ goes (configuring 3 []) []
unfolding opening_at
head = refl

remark : opening_at 1 (codes "# record 1") ≡ goes opening []
unfolding opening_at
remark = refl

other_number : opening_at 1 (codes "record 2") ≡ stops (statuses.Record 1 2) []
unfolding opening_at
other_number = refl

empty_word : opening_at 1 (codes "record ") ≡ stops (statuses.Record 1 1) []
unfolding opening_at
empty_word = refl

other_word : opening_at 1 (codes "open 1 direct") ≡ stops (statuses.Record 1 1) []
unfolding opening_at
other_word = refl
