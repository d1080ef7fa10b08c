-- what the loops of `sendable::writable` keep
use Rattle.std.proofs.Common.{◌≡◌, drop}
use Rattle.sv_base.specs.Seen.{row_of}
use Rattle.output_pdus.specs.Sendable.{are_writable}
use Rattle.output_pdus.proofs.sendable.+writable.Given as goal

abbrev pub invariant-are_writable-loop-value : goal.invariant-are_writable-loop-value
invariant-are_writable-loop-value l = are_writable l.depth (row_of (drop l.value-index l.values)) ≡ are_writable l.depth (row_of l.values)
