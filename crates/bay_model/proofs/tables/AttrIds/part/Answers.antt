-- why `tables::AttrIds::part` answers as its contract says
use Rattle.std.proofs.Common.{◌+◌, ◌-◌, take, drop, refl, ap, ◌∙◌}
use Rattle.bay_model.proofs.RangeLaws.{part-is}
use Rattle.bay_model.proofs.tables.AttrIds.part.Goals as goal

pub returns : goal.returns
returns c = ap (λ row. take (c.self.inside.first + c.min.result + c.min-2.result - (c.self.inside.first + c.min.result)) (drop (c.self.inside.first + c.min.result) row.items)) c.in_ok-try_clone.ensures
    ∙ (part-is c.self.inside.row.value.items c.self.inside.first c.self.inside.end c.args.first c.args.count _ _ (ap (λ n. c.self.inside.first + n) c.min.ensures) (ap (λ n. c.self.inside.first + c.min.result + n) c.min-2.ensures)
    ∙ ap (λ l. take c.args.count (drop c.args.first l)) c.self.view_is)
