-- what the loops of `losses::lose_all` keep, and why they end
use Rattle.std.proofs.Common.{◌≡◌, ◌-◌, ◌++◌, ◌≤◌, map, take, drop, length}
use Rattle.report_block.specs.Writes.{lost_by}
use Rattle.block_events.proofs.losses.lose_all.Given as goal

-- the parts before this place are as they are after the loss
abbrev pub invariant-loop-place : goal.invariant-loop-place
invariant-loop-place l = (l.parts.items ≡ map (lost_by l.fn.a l.fn.now) (take l.place l.fn.parts.items) ++ drop l.place l.fn.parts.items)
    × (l.place ≤ length l.fn.parts.items) × (l.a ≡ l.fn.a) × (l.now ≡ l.fn.now)

abbrev pub decreases-loop-place : goal.decreases-loop-place
decreases-loop-place l = length l.fn.parts.items - l.place
