-- what the loops of `keys::Keys::add_above` keep
use Rattle.std.proofs.Common.{◌≡◌, ℕ, List, ◌||◌, take, fold}
use Rattle.octet_rows.specs.Hashing.{nothing, gathered}
use Rattle.cfg_lines.specs.Keys.{is_among}
use Rattle.cfg_lines.specs.Paths.{above_within}
use Rattle.cfg_lines.proofs.keys.Keys.add_above.Given as goal

abbrev pub invariant-loop-i : goal.invariant-loop-i
invariant-loop-i l = (l.hash ≡ fold gathered nothing (take l.i l.path)) × ((q : List ℕ) → is_among l.self q ≡ (is_among (above_within l.i l.path) q || is_among l.initial.self q))
