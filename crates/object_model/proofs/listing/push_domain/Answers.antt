-- why `listing::push_domain` answers as its contract says
use Rattle.std.proofs.Common.{◌≡◌, List, [], ◌∷◌, ap, ◌∙◌, subst, ◌++◌, map, length}
use Rattle.bay_model.specs.Places.{Place}
use Rattle.name_tree.specs.Grown.{items_of, spot}
use Rattle.name_tree.specs.Nodes.{names_at, places_from}
use Rattle.object_model.specs.Runs.{lines_in}
use Rattle.name_tree.specs.Attrs.{attrs_in_spots, rows_with}
use Rattle.name_tree.specs.Directories.{IsDirectoryOf}
use Rattle.name_tree.specs.Stands.{owns, stands_from}
use Rattle.object_model.proofs.listing.push_domain.Goals as goal

pub returns : goal.returns
returns c =
    let ps : List Place = places_from (lines_in c.args.runs.now) c.args.domain.now in
    let pushed = c.in_default.ensures in
    let spots : c.in_ok-growth.growth.spots.items ≡ map spot ps = c.in_ok-growth.ensures.spots in
    let items : c.in_ok-growth.growth.items ≡ items_of ps = c.in_ok-growth.ensures.items in record {
      rows = pushed.rows ∙ (ap (λ l. c.args.listing.now.rows.items ++ rows_with (length c.args.listing.now.rows.items) l (attrs_in_spots c.in_ok-growth.growth.spots.items) c.in_ok-growth.growth.spots.items) items
          ∙ ap (λ l. c.args.listing.now.rows.items ++ rows_with (length c.args.listing.now.rows.items) (items_of ps) (attrs_in_spots l) l) spots);
      names = pushed.names ∙ (ap (λ l. c.args.listing.now.names.items ++ names_at c.in_ok-number.number 0 l) spots
          ∙ ap (λ k. c.args.listing.now.names.items ++ names_at k 0 (map spot ps)) (c.in_ok-number.ensures ∙ ap length c.as_slice-2.ensures.value));
      directory = c.in_ok-directory.directory;
      directories = c.in_ok-push.ensures.items ∙ ap (λ l. l ++ c.in_ok-directory.directory ∷ []) (ap (λ v. v.items) c.push_spots.ensures.directories);
      is_directory = subst (λ n. IsDirectoryOf n (items_of ps) c.in_ok-directory.directory) (c.in_ok-first.ensures ∙ ap length c.as_slice.ensures.value) (subst (λ l. IsDirectoryOf c.in_ok-first.first l c.in_ok-directory.directory) items c.in_ok-directory.ensures);
      stands = pushed.stands ∙ ap (λ l. c.args.listing.now.stands.items ++ stands_from (length c.args.listing.now.leaves.items) l) spots;
      leaves = pushed.leaves ∙ ap (λ l. c.args.listing.now.leaves.items ++ owns l) spots;
    }
