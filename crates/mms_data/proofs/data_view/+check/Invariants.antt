-- what the loops of `data_view::check` keep, and why they end
use Rattle.std.proofs.Common.{◌≡◌, ◌+◌, ◌*◌, length}
use Rattle.ber_grammar.specs.Rows.{row_at}
use Rattle.mms_data.specs.Reading.{malformed, data_at}
use Rattle.mms_data.specs.View.{checked}
use Rattle.mms_data.proofs.data_view.+check.Given as goal

abbrev pub decreases-check_parts : goal.decreases-check_parts
decreases-check_parts l = 2 * l.depth + 1

abbrev pub decreases-check_value : goal.decreases-check_value
decreases-check_value l = 2 * l.depth

-- what is left decides
abbrev pub invariant-check_parts-loop-rest : goal.invariant-check_parts-loop-rest
invariant-check_parts-loop-rest l = checked (row_at (data_at l.depth) malformed l.content) ≡ checked (row_at (data_at l.depth) malformed l.rest)

abbrev pub decreases-check_parts-loop-rest : goal.decreases-check_parts-loop-rest
decreases-check_parts-loop-rest l = length l.rest
