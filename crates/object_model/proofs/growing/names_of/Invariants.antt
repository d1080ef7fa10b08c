-- what the loops of `growing::names_of` keep
use Rattle.std.proofs.Common.{◌≡◌, take, filter, flat_map}
use Rattle.std.specs.Str.{bytes_eq}
use Rattle.bay_model.specs.NamedLines.{Line}
use Rattle.object_model.specs.Runs.{lines_in}
use Rattle.object_model.proofs.growing.names_of.Given as goal

abbrev pub invariant-loop-run : goal.invariant-loop-run
invariant-loop-run l = l.cuts.items ≡ flat_map (λ (k : Line). k.names) (filter (λ (k : Line). bytes_eq k.domain l.domain) (lines_in (take l.run-index l.runs)))
