-- why `dues::Dues::open` answers as its contract says
use Rattle.std.proofs.Common.{◌≡◌, Some, replicate, rules, subst, sym}
use Rattle.std.specs.List.{All}
use Rattle.std.proofs.lemmas.List.Elements.{All-replicate}
use Rattle.report_block.specs.Due.{IsBefore}
use Rattle.block_watch.proofs.dues.Dues.open.Goals as goal

pub invariant_of-result : goal.invariant_of-result
invariant_of-result c =
    let items : c.in_ok-each.each.items ≡ replicate c.args.blocks (Some 0) = search rules in
    λ now h. subst (All (IsBefore now)) (sym items) (All-replicate (IsBefore now) c.args.blocks (Some 0) h)
