-- what the loops of `index::first_at` keep
use Rattle.std.proofs.Common.{◌≡◌, None, take}
use Rattle.octet_rows.specs.Found.{first_at}
use Rattle.octet_rows.proofs.index.first_at.Given as goal

abbrev pub invariant-loop-place : goal.invariant-loop-place
invariant-loop-place l = first_at l.rows l.row (take l.place-index l.places) ≡ None
