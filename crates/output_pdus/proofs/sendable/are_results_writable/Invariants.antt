-- what the loops of `sendable::are_results_writable` keep
use Rattle.std.proofs.Common.{◌≡◌, drop}
use Rattle.std.specs.List.{list_all}
use Rattle.output_pdus.specs.Sendable.{is_result_writable}
use Rattle.output_pdus.proofs.sendable.are_results_writable.Given as goal

abbrev pub invariant-loop-one : goal.invariant-loop-one
invariant-loop-one l = list_all is_result_writable (drop l.one-index l.results) ≡ list_all is_result_writable l.results
