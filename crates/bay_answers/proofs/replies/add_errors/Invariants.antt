-- what the loops of `replies::add_errors` keep
use Rattle.std.proofs.Common.{◌≡◌, ◌++◌, map, drop}
use Rattle.bay_answers.specs.ControlPdus.{error_pdu}
use Rattle.bay_answers.proofs.replies.add_errors.Given as goal

-- what is written and what is left to write make what is wanted
abbrev pub invariant-loop-error : goal.invariant-loop-error
invariant-loop-error l = l.pdus.items ++ map error_pdu (drop l.error-index l.before) ≡ l.fn.pdus.items ++ map error_pdu l.before
