-- what the loops of `deleting::renumber_all` keep, and why they end
use Rattle.std.proofs.Common.{◌≡◌, ◌-◌, ◌++◌, ◌≤◌, map, take, drop, length}
use Rattle.report_block.specs.Writes.{renumbered}
use Rattle.bay_core.proofs.deleting.renumber_all.Given as goal

-- the parts before this place are as they are without the set that went
abbrev pub invariant-loop-place : goal.invariant-loop-place
invariant-loop-place l = (l.parts.items ≡ map (renumbered l.fn.gone) (take l.place l.fn.parts.items) ++ drop l.place l.fn.parts.items)
    × (l.place ≤ length l.fn.parts.items) × (l.gone ≡ l.fn.gone)

abbrev pub decreases-loop-place : goal.decreases-loop-place
decreases-loop-place l = length l.fn.parts.items - l.place
