-- what the loops of `sendable::are_short_errors` keep
use Rattle.std.proofs.Common.{drop}
use Rattle.std.specs.List.{All}
use Rattle.output_shapes.specs.Shapes.{IsShortError}
use Rattle.output_pdus.proofs.sendable.are_short_errors.Given as goal

abbrev pub invariant-loop-error : goal.invariant-loop-error
invariant-loop-error l = All IsShortError (drop l.error-index l.errors) → All IsShortError l.errors
