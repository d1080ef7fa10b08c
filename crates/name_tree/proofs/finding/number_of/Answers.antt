-- why `finding::number_of` answers as its contract says
use Rattle.std.proofs.Common.{◌∙◌, ap, sym, refl}
use Rattle.name_leaves.specs.Numbers.{number_in}
use Rattle.name_tree.specs.Directories.{IsDirectory}
use Rattle.name_tree.proofs.ResolveLaws.{resolved, unresolved}
use Rattle.name_tree.proofs.DirectoryLaws.{directory-at, directory-finds}
use Rattle.name_tree.proofs.finding.number_of.Goals as goal

pub returns-in-None : goal.returns-in-None
returns-in-None c model t = sym (unresolved model c.args.domain.now c.args.item.now (sym (ap (λ ds. number_in ds c.args.domain.now) t.domain_names) ∙ sym c.in-None.ensures))

pub returns-in-Some-get : goal.returns-in-Some-get
returns-in-Some-get c model t =
    let directory : IsDirectory model c.in-Some.number c.in-Some-get.directory.now = directory-at model c.args.directories.now c.args.directories.now c.in-Some.number c.in-Some-get.directory.now t.directories refl c.in-Some-get.ensures.lookup.3.0 c.in-Some-get.ensures.lookup.1 in
    directory-finds _ _ c.in-Some-get.directory.now c.args.item.now c.number_in_domain.result directory c.number_in_domain.ensures
    ∙ sym (resolved model c.args.domain.now c.args.item.now c.in-Some.number (sym (ap (λ ds. number_in ds c.args.domain.now) t.domain_names) ∙ sym c.in-Some.ensures))
