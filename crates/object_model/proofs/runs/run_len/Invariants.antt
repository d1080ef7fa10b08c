-- what the loops of `runs::run_len` keep
use Rattle.std.proofs.Common.{◌≡◌, ◌<◌, ℕ, true, get_or}
use Rattle.std.specs.Str.{bytes_eq}
use Rattle.bay_model.specs.NamedLines.{Line}
use Rattle.object_model.proofs.runs.run_len.Given as goal

abbrev pub invariant-loop-i : goal.invariant-loop-i
invariant-loop-i l = (k : ℕ) (d : Line) → k < l.i → bytes_eq (get_or l.lines k d).domain l.domain ≡ true
