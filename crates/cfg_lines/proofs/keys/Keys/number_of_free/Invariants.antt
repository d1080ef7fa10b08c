-- what the loops of `keys::Keys::number_of_free` keep
use Rattle.std.proofs.Common.{◌≡◌, false, take, fold}
use Rattle.std.specs.List.{list_any}
use Rattle.octet_rows.specs.Hashing.{nothing, gathered}
use Rattle.cfg_lines.specs.Keys.{is_among}
use Rattle.cfg_lines.specs.Paths.{above_within}
use Rattle.cfg_lines.proofs.keys.Keys.number_of_free.Given as goal

abbrev pub invariant-loop-i : goal.invariant-loop-i
invariant-loop-i l = (l.hash ≡ fold gathered nothing (take l.i l.path)) × (list_any (λ front. is_among l.self front) (above_within l.i l.path) ≡ false)
