-- why `dues::Dues::put` answers as its contract says
use Rattle.std.proofs.Common.{subst}
use Rattle.std.proofs.lemmas.List.Elements.{All-set}
use Rattle.report_block.specs.Due.{IsBefore}
use Rattle.block_watch.proofs.DueLaws.{before-first, before-second}
use Rattle.block_watch.proofs.dues.Dues.put.Goals as goal

pub invariant_of-self : goal.invariant_of-self
invariant_of-self c = λ now h.
    let is = subst (IsBefore now) c.earliest-self-inside.ensures h in
    All-set (IsBefore now) c.self.inside.each.items c.args.place c.args.due (before-second now c.self.inside.first c.args.due is) (c.self.invariant now (before-first now c.self.inside.first c.args.due is))
