-- The nodes of a configuration as the parts of a bay are given them: each with its domain, its type and its largest Data.
use Rattle.std.specs.Prelude.{ℕ, suc, List, [], ◌∷◌, ◌++◌, map, flat_map, filter, min}
use Rattle.std.specs.Str.{bytes_eq}
use Rattle.sv_base.specs.declared.config.Config.{Config}
use Rattle.sv_base.specs.declared.numbers.AttrId.{AttrId}
use Rattle.bay_model.specs.declared.tables.NodeRow.{NodeRow}
use Rattle.bay_model.specs.NameTree.{tree_of}
use Rattle.bay_model.specs.Places.{Place, places, largest, may_be_member}
use Rattle.bay_model.specs.NamedLines.{Line, domains}
use Rattle.bay_model.specs.Named.{places_in}
use Rattle.name_tree.specs.declared.growth.Spot.{Spot}
use Rattle.name_tree.specs.declared.directories.NodeName.{NodeName}
use Rattle.name_tree.specs.Grown.{spot}

-- the nodes that lines name in a domain
abbrev pub places_from : List Line → List ℕ → List Place
places_from ls domain = places [] (tree_of (flat_map (λ (l : Line). l.names) (filter (λ (l : Line). bytes_eq l.domain domain) ls)))

-- the nodes of a domain
abbrev pub spots_in : Config → List ℕ → List Spot
spots_in c domain = map spot (places_in c domain)

abbrev pub attr_id : ℕ → AttrId
attr_id x = record { 0 = x }

-- node number n: its number counts up to 4294967295 octets of its largest Data
abbrev pub row : ℕ → Place → NodeRow
row n p = record {
  allowed = may_be_member p;
  octets = min (largest p.kind) 4294967295;
  shape = record { node = record { 0 = n }; kind = p.kind; attrs = map attr_id p.attrs };
}

abbrev pub rows_from : ℕ → List Place → List NodeRow
rows_from n [] = []
rows_from n (p ∷ ps) = row n p ∷ rows_from (suc n) ps

-- the nodes by their numbers, domain by domain
abbrev pub node_rows : Config → List NodeRow
node_rows c = rows_from 0 (flat_map (places_in c) (domains c))

-- the names of nodes of domain k, the first at a place of its own
abbrev pub names_at : ℕ → ℕ → List Spot → List NodeName
names_at k place [] = []
names_at k place (s ∷ ss) = record { domain = k; place = place } ∷ names_at k (suc place) ss

-- of domains, the first of which is number k
abbrev pub names_from : Config → ℕ → List (List ℕ) → List NodeName
names_from c k [] = []
names_from c k (d ∷ ds) = names_at k 0 (spots_in c d) ++ names_from c (suc k) ds

-- their names
abbrev pub node_names : Config → List NodeName
node_names c = names_from c 0 (domains c)
