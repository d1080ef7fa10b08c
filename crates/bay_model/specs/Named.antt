-- The tree of names of a configuration: its nodes domain by domain, its attributes, and its data sets by the numbers of their
-- members (IEC 61850-7-2, the information model, DATA-SET; IEC 61850-8-1, the names of MMS variables).
use Rattle.std.specs.Prelude.{ℕ, List, [], map, flat_map, position, unwrap_or}
use Rattle.std.specs.Str.{bytes_eq}
use Rattle.sv_base.specs.declared.config.Config.{Config}
use Rattle.sv_base.specs.declared.config.SetDef.{SetDef}
use Rattle.bay_model.specs.Model.{Model, Node, DataSet}
use Rattle.bay_model.specs.Lookups.{reference_of}
use Rattle.bay_model.specs.Configured.{NameTree, model_of}
use Rattle.bay_model.specs.Generated.{within}
use Rattle.bay_model.specs.NamedLines.{domains, names_in}
use Rattle.bay_model.specs.Attributes.{attributes}
use Rattle.bay_model.specs.NameTree.{tree_of}
use Rattle.bay_model.specs.Places.{Place, places, node_at}

abbrev pub places_in : Config → List ℕ → List Place
places_in c domain = places [] (tree_of (names_in c domain))

abbrev pub nodes : Config → List Node
nodes c = flat_map (λ domain. map (node_at domain) (places_in c domain)) (domains c)

-- the number of the node of a reference `LD/LN$FC$DO`, where it is there
abbrev pub member_number : List Node → List ℕ → ℕ
member_number ns reference = unwrap_or (position (λ (n : Node). bytes_eq reference (reference_of n.domain n.item)) ns) 0

abbrev pub set_defined : List Node → SetDef → DataSet
set_defined ns s = record { domain = s.domain; item = within s.ln s.name; nodes = map (member_number ns) s.members }

abbrev pub name_tree : Config → NameTree
name_tree c = record { nodes = nodes c; attrs = attributes c; sets = map (set_defined (nodes c)) c.sets }

-- the model of a configuration
abbrev pub configured_model : Config → Model
configured_model c = model_of c (name_tree c)
