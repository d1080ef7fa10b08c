-- what the loops of `view::PairsView::to_pairs` keep, and why they end
use Rattle.std.proofs.Common.{◌≡◌, ◌++◌, length}
use Rattle.run_record.specs.Seen.{pairs_seen}
use Rattle.run_record.proofs.view.PairsView.to_pairs.Given as goal

abbrev pub invariant-loop-pair : goal.invariant-loop-pair
invariant-loop-pair l = l.pairs.items ++ pairs_seen l.rest ≡ pairs_seen l.self

abbrev pub decreases-loop-pair : goal.decreases-loop-pair
decreases-loop-pair l = length (pairs_seen l.rest)
