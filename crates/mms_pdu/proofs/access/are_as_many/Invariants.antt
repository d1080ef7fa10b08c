-- what the loops of `access::are_as_many` keep, and why they end
use Rattle.std.proofs.Common.{◌≡◌, eqb, length}
use Rattle.mms_pdu.proofs.access.are_as_many.Given as goal

-- what is left decides
abbrev pub invariant-loop-first : goal.invariant-loop-first
invariant-loop-first l = eqb (length l.initial.first) (length l.initial.second) ≡ eqb (length l.first) (length l.second)

abbrev pub decreases-loop-first : goal.decreases-loop-first
decreases-loop-first l = length l.first
