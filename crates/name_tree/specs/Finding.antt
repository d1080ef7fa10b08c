-- What is found in a configuration: its nodes by their names, and by their references.
use Rattle.std.specs.Prelude.{◌≡◌, ℕ, ◌&&◌, ◌==◌, nat_lt, min, Bool, List, length, position, Option, None, Some}
use Rattle.std.specs.Str.{bytes_eq}
use Rattle.sv_base.specs.declared.config.Config.{Config}
use Rattle.bay_model.specs.Model.{Node}
use Rattle.bay_model.specs.Lookups.{reference_of}
use Rattle.bay_model.specs.NamedLines.{domains}
use Rattle.name_tree.specs.declared.directories.Directory.{Directory}
use Rattle.name_tree.specs.Directories.{AllFrom, IsDirectory}

-- the number of the node of an item of a domain
abbrev pub node_named : List Node → List ℕ → List ℕ → Option ℕ
node_named ns domain item = position (λ (n : Node). bytes_eq domain n.domain && bytes_eq item n.item) ns

-- the domains, and for each its names
pub record Finds (c : Config) (names : List (List ℕ)) (ds : List Directory) : Type 0 where
  pub domain_names : names ≡ domains c
  pub directories : AllFrom (IsDirectory c) 0 ds
  pub count : length ds ≡ length (domains c)

-- ---- for the code

-- its reference is this one, and its domain has n octets
abbrev pub is_cut : List ℕ → ℕ → Node → Bool
is_cut reference octets n = (length n.domain == octets) && bytes_eq reference (reference_of n.domain n.item)

-- its reference is this one, and its domain has fewer octets
abbrev pub is_cut_below : List ℕ → ℕ → Node → Bool
is_cut_below reference octets n = nat_lt (length n.domain) octets && bytes_eq reference (reference_of n.domain n.item)

-- the lesser of two numbers, of those that there are
abbrev pub least : Option ℕ → Option ℕ → Option ℕ
least None b = b
least (Some a) None = Some a
least (Some a) (Some b) = Some (min a b)
