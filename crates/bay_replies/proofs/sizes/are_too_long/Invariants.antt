-- what the loops of `sizes::are_too_long` keep
use Rattle.std.proofs.Common.{◌≡◌, ◌+◌, length, drop}
use Rattle.std.specs.Prelude.{min}
use Rattle.bay_replies.proofs.SizeLaws.{octets}
use Rattle.bay_replies.proofs.sizes.are_too_long.Given as goal

abbrev pub invariant-loop-one : goal.invariant-loop-one
invariant-loop-one l = min (l.sum + length (octets (drop l.one-index l.results))) 4294967295 ≡ min (length (octets l.results)) 4294967295
