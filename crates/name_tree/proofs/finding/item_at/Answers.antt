-- why `finding::item_at` answers as its contract says
use Rattle.std.proofs.Common.{◌∙◌, ap, refl}
use Rattle.name_order.specs.Sorting.{name_at}
use Rattle.name_tree.proofs.DirectoryLaws.{directory-at}
use Rattle.name_tree.proofs.finding.item_at.Goals as goal

pub returns-in-Some : goal.returns-in-Some
returns-in-Some c = λ model domains finds within. c.name_at.ensures ∙ ap (λ items. name_at items c.args.name.place)
    (directory-at model c.args.directories.now c.args.directories.now c.args.name.domain c.in-Some.directory.now finds.directories refl c.in-Some.ensures.lookup.3.0 c.in-Some.ensures.lookup.1).items
