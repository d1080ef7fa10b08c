-- What stands at the nodes: the leaves of all nodes in one row, and where those of each node stand in it.
use Rattle.std.specs.Prelude.{ℕ, ◌+◌, List, [], ◌∷◌, ◌++◌, length, Option, Some, None, flat_map}
use Rattle.sv_base.specs.declared.config.Config.{Config}
use Rattle.bay_model.specs.NamedLines.{domains}
use Rattle.name_tree.specs.Nodes.{spots_in}
use Rattle.name_tree.specs.declared.growth.Spot.{Spot}
use Rattle.name_tree.specs.declared.stands.Stand.{Stand}
use Rattle.name_leaves.specs.declared.leaves.Leaf.{Leaf}

abbrev pub option_list : {L : Type 0} → Option L → List L
option_list None = []
option_list (Some l) = l ∷ []

-- the leaves of nodes: each stands once, where its own node comes
abbrev pub owns : List Spot → List Leaf
owns [] = []
owns (s ∷ ss) = option_list s.own ++ owns ss

-- a node's leaves begin after those of the nodes before it
abbrev pub stands_from : ℕ → List Spot → List Stand
stands_from n [] = []
stands_from n (s ∷ ss) = record { what = s.what; first = n; end = n + s.leaves } ∷ stands_from (n + length (option_list s.own)) ss

abbrev pub all_leaves : Config → List Leaf
all_leaves c = owns (flat_map (spots_in c) (domains c))

abbrev pub all_stands : Config → List Stand
all_stands c = stands_from 0 (flat_map (spots_in c) (domains c))
