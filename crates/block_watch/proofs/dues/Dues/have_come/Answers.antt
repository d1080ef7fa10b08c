-- why `dues::Dues::have_come` answers as its contract says
use Rattle.std.proofs.Common.{subst}
use Rattle.block_watch.specs.Dues.{AreBefore}
use Rattle.block_watch.proofs.dues.Dues.have_come.Goals as goal

pub returns : goal.returns
returns c = λ no. subst (AreBefore c.args.now) c.self.view_is (c.self.invariant c.args.now (c.has_come.ensures.late no))
