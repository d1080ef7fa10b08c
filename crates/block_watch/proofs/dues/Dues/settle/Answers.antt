-- why `dues::Dues::settle` answers as its contract says
use Rattle.std.proofs.Common.{List, Option, ℕ, subst}
use Rattle.block_watch.specs.Dues.{AreFrom}
use Rattle.block_watch.proofs.dues.Dues.settle.Goals as goal

pub invariant_of-self : goal.invariant_of-self
invariant_of-self c = subst (λ (l : List (Option ℕ)). AreFrom c.least_of-self-inside.result l) c.deref.ensures.value c.least_of-self-inside.ensures
