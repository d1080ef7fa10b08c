-- what the loops of `hashing::mixed_front` keep, and why they end
use Rattle.std.proofs.Common.{◌≡◌, length, fold}
use Rattle.octet_rows.specs.Hashing.{nothing, mixed_to, gathered}
use Rattle.octet_rows.proofs.hashing.mixed_front.Given as goal

abbrev pub invariant-loop-rest : goal.invariant-loop-rest
invariant-loop-rest l = fold gathered nothing l.row ≡ fold gathered (mixed_to l.mixed) l.rest

abbrev pub decreases-loop-rest : goal.decreases-loop-rest
decreases-loop-rest l = length l.rest
