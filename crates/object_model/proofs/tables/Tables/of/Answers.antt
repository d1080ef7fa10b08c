-- why `tables::Tables::of` answers as its contract says
use Rattle.std.proofs.Common.{◌≡◌, ◌∙◌, subst, sym, ap, map, []}
use Rattle.bay_model.specs.Configured.{domains_after}
use Rattle.bay_model.specs.Named.{nodes, set_defined}
use Rattle.bay_model.specs.NamedLines.{domains}
use Rattle.name_tree.specs.Finding.{Finds}
use Rattle.object_model.specs.Tables.{set_row}
use Rattle.object_model.proofs.ListingLaws.{all-rows, all-names, all-stands-listed, all-leaves-listed}
use Rattle.object_model.proofs.tables.Tables.of.Goals as goal

pub returns : goal.returns
returns c =
    let named : c.in_ok-domains.domains ≡ domains c.args.config.now = c.in_ok-domains.ensures ∙ (c.deref.ensures.value ∙ (c.in_ok-names.ensures ∙ ap (domains_after []) c.as_slice.ensures)) in
    let finds : Finds c.args.config.now c.in_ok-domains.domains c.in_ok-listing.listing.directories.items = record { domain_names = named; directories = c.in_ok-listing.ensures.directories; count = c.in_ok-listing.ensures.count } in record {
      finds = finds;
      names = all-names c.args.config.now c.in_ok-listing.listing c.in_ok-listing.ensures;
      nodes = c.from_vec.ensures ∙ all-rows c.args.config.now c.in_ok-listing.listing c.in_ok-listing.ensures;
      sets = c.from_vec-2.ensures ∙ (c.in_ok-sets.ensures c.args.config.now (subst (Finds c.args.config.now c.in_ok-domains.domains) (sym c.deref-4.ensures.value) finds) ∙ ap (λ l. map set_row (map (set_defined (nodes c.args.config.now)) l)) c.as_slice-2.ensures);
      stands = all-stands-listed c.args.config.now c.in_ok-listing.listing c.in_ok-listing.ensures;
      leaves = all-leaves-listed c.args.config.now c.in_ok-listing.listing c.in_ok-listing.ensures;
    }
