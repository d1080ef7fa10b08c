-- what the loops of `reading::data` keep, and why they end
use Rattle.std.proofs.Common.{map, length, ◌+◌, ◌*◌}
use Rattle.ber_grammar.proofs.RowLaws.{Goes}
use Rattle.sv_base.specs.Seen.{seen_of}
use Rattle.mms_data.specs.Reading.{malformed, data_at}
use Rattle.mms_data.proofs.reading.+data.Given as goal

abbrev pub decreases-value_of : goal.decreases-value_of
decreases-value_of l = 3 * l.depth

abbrev pub decreases-parts_of : goal.decreases-parts_of
decreases-parts_of l = 3 * l.depth + 1

abbrev pub decreases-struct_of : goal.decreases-struct_of
decreases-struct_of l = 3 * l.depth + 2

-- what was read, and what the rest gives, are what the content gives
abbrev pub invariant-parts_of-loop-rest : goal.invariant-parts_of-loop-rest
invariant-parts_of-loop-rest l = Goes (data_at l.depth) malformed (map seen_of l.items.items) l.content l.rest

abbrev pub decreases-parts_of-loop-rest : goal.decreases-parts_of-loop-rest
decreases-parts_of-loop-rest l = length l.rest
