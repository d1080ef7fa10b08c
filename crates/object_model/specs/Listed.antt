-- The nodes of a configuration as they are listed: their rows, their names, and the items of each domain.
use Rattle.std.specs.Prelude.{◌≡◌, ℕ, List, [], ◌∷◌, ◌++◌, map, flat_map, length, take}
use Rattle.sv_base.specs.declared.config.Config.{Config}
use Rattle.bay_model.specs.Places.{Place}
use Rattle.bay_model.specs.NamedLines.{domains}
use Rattle.bay_model.specs.Named.{places_in}
use Rattle.name_tree.specs.declared.directories.Directory.{Directory}
use Rattle.object_model.specs.declared.listing.Listing.{Listing}
use Rattle.name_tree.specs.Grown.{spot}
use Rattle.name_tree.specs.Directories.{items_of, IsDirectory, IsDirectoryOf, AllFrom}
use Rattle.name_tree.specs.Stands.{owns, stands_from}
use Rattle.name_tree.specs.Attrs.{attrs_in_spots, rows_with}
use Rattle.name_tree.specs.Nodes.{spots_in, rows_from, names_at, names_from}

-- the first i domains are listed
pub record IsListed (c : Config) (i : ℕ) (l : Listing) : Type 0 where
  pub rows : l.rows.items ≡ rows_from 0 (flat_map (places_in c) (take i (domains c)))
  pub names : l.names.items ≡ names_from c 0 (take i (domains c))
  pub directories : AllFrom (IsDirectory c) 0 l.directories.items
  pub count : length l.directories.items ≡ i
  pub stands : l.stands.items ≡ stands_from 0 (flat_map (spots_in c) (take i (domains c)))
  pub leaves : l.leaves.items ≡ owns (flat_map (spots_in c) (take i (domains c)))

-- one more domain, of these nodes
pub record IsOneMore (old new : Listing) (ps : List Place) : Type 0 where
  pub rows : new.rows.items ≡ old.rows.items ++ rows_with (length old.rows.items) (items_of ps) (attrs_in_spots (map spot ps)) (map spot ps)
  pub names : new.names.items ≡ old.names.items ++ names_at (length old.directories.items) 0 (map spot ps)
  pub directory : Directory
  pub directories : new.directories.items ≡ old.directories.items ++ directory ∷ []
  pub is_directory : IsDirectoryOf (length old.rows.items) (items_of ps) directory
  pub stands : new.stands.items ≡ old.stands.items ++ stands_from (length old.leaves.items) (map spot ps)
  pub leaves : new.leaves.items ≡ old.leaves.items ++ owns (map spot ps)
