-- why `tables::Tables::names_after` answers as its contract says
use Rattle.std.proofs.Common.{◌∙◌, sym, ap, map}
use Rattle.name_order.specs.Sorting.{name_at}
use Rattle.name_leaves.specs.Numbers.{number_in}
use Rattle.name_tree.specs.Directories.{IsDirectory, items_at}
use Rattle.name_tree.proofs.ResolveLaws.{variables, no_variables}
use Rattle.name_tree.proofs.DirectoryLaws.{directory-at}
use Rattle.object_model.proofs.tables.Tables.names_after.Goals as goal

pub returns-in-None : goal.returns-in-None
returns-in-None c model t = c.new.ensures.items ∙ sym (no_variables model c.args.domain.now c.args.after.now (sym (ap (λ ds. number_in ds c.args.domain.now) t.finds.domain_names) ∙ sym c.in-None.ensures))

pub returns-in_ok-names-in-Some-get : goal.returns-in_ok-names-in-Some-get
returns-in_ok-names-in-Some-get c model t =
    let directory : IsDirectory model c.in-Some.number c.in-Some-get.directory.now = directory-at model c.deref.result.now c.args.self.now.directories.items c.in-Some.number c.in-Some-get.directory.now t.finds.directories c.deref.ensures.value c.in-Some-get.ensures.lookup.3.0 c.in-Some-get.ensures.lookup.1 in
    c.in_ok-names-in-Some-get.ensures (items_at model c.in-Some.number) (ap (map (name_at c.in-Some-get.directory.now.items)) c.deref-in-Some-get.ensures.value ∙ (ap (λ is. map (name_at is) c.in-Some-get.directory.now.ascending.items) directory.items ∙ directory.ascending))
    ∙ sym (variables model c.args.domain.now c.args.after.now c.in-Some.number (sym (ap (λ ds. number_in ds c.args.domain.now) t.finds.domain_names) ∙ sym c.in-Some.ensures))
