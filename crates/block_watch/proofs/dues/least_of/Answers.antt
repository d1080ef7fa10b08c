-- why `dues::least_of` answers as its contract says
use Rattle.std.proofs.Common.{subst}
use Rattle.std.specs.List.{All}
use Rattle.std.proofs.lemmas.List.{take_all}
use Rattle.std.proofs.lemmas.List.Elements.{All-more}
use Rattle.report_block.specs.Due.{IsBefore}
use Rattle.block_watch.proofs.DueLaws.{before-first, before-second}
use Rattle.block_watch.proofs.dues.least_of.Goals as goal

pub loop-due-preserved : goal.loop-due-preserved
loop-due-preserved c = λ now h.
    let is = subst (IsBefore now) c.earliest-least.ensures h in
    All-more (IsBefore now) c.args.each.now c.loop-due.due-index _ c.loop-due-test.true (c.loop-due.invariant now (before-first now c.loop-due.least _ is)) (before-second now c.loop-due.least _ is)

pub returns : goal.returns
returns c = λ now h. subst (All (IsBefore now)) (take_all c.loop-due.due-index c.args.each.now c.loop-due-test.false) (c.loop-due.invariant now h)
