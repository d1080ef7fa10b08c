-- why `part_names::PartNames::add` answers as its contract says
use Rattle.std.proofs.Common.{sym, ap, ◌∙◌}
use Rattle.cfg_nodes.specs.PartNames.{part_names}
use Rattle.cfg_nodes.proofs.PartNameLaws.{second-added}
use Rattle.cfg_nodes.proofs.part_names.PartNames.add.Goals as goal

pub returns : goal.returns
returns c =
    let several = c.self.inside.several.keys in
    ap (λ one. part_names one c.insert-3.new.names.keys) c.in-Some.is
    ∙ second-added several c.insert-2.new.names.keys c.insert-3.new.names.keys c.in-Some.first c.args.name.now c.args.self.now (c.is_empty.ensures.0 c.if-not-is_empty.false)
    (ap (λ one. part_names one several) (sym c.in-Some.is) ∙ c.self.view_is) c.in_ok-insert-2.ensures c.in_ok-insert-3.ensures
