-- What is found in a configuration: its data sets and the trigger conditions of its attributes.
use Rattle.std.specs.Prelude.{◌≡◌, ℕ, List, ◌++◌, map, flat_map, filter, slice_index_or}
use Rattle.sv_base.specs.declared.config.Config.{Config}
use Rattle.sv_base.specs.declared.config.CtlDef.{CtlDef}
use Rattle.sv_base.specs.declared.numbers.NodeId.{NodeId}
use Rattle.sv_base.specs.declared.types.TypeOf.{TypeOf}
use Rattle.sv_base.specs.declared.types.TypeOf.TheVariants as types
use Rattle.sv_base.specs.Types.{no_field}
use Rattle.bay_model.specs.declared.flags.Flags.{Flags}
use Rattle.bay_model.specs.declared.tables.SetRow.{SetRow}
use Rattle.bay_model.specs.Model.{DataSet, Attr}
use Rattle.bay_model.specs.Generated.{Parameter, parameters}
use Rattle.bay_model.specs.Places.{Place}
use Rattle.bay_model.specs.NamedLines.{domains, is_setting}
use Rattle.bay_model.specs.Named.{name_tree, places_in}
pub use Rattle.name_leaves.specs.Attributes.{line_flags, no_flags}
use Rattle.object_model.specs.declared.tables.Tables.{Tables}
use Rattle.name_tree.specs.Nodes.{node_rows, node_names}
use Rattle.name_tree.specs.Stands.{all_stands, all_leaves}
pub use Rattle.name_tree.specs.Finding.{node_named}
use Rattle.name_tree.specs.Finding.{Finds}

-- the types of the nodes, by their numbers
abbrev pub node_types : Config → List TypeOf
node_types c = flat_map (λ domain. map (λ (p : Place). p.kind) (places_in c domain)) (domains c)

abbrev pub node_type : Config → ℕ → TypeOf
node_type c n = slice_index_or (node_types c) n (types.Struct no_field)

abbrev pub node_id : ℕ → NodeId
node_id n = record { 0 = n }

abbrev pub set_row : DataSet → SetRow
set_row s = record { name = record { domain = s.domain; item = s.item }; nodes = map node_id s.nodes }

-- the configured data sets, with the numbers of their members
abbrev pub set_rows : Config → List SetRow
set_rows c = map set_row (name_tree c).sets

abbrev pub flags_of : Attr → Flags
flags_of a = record { dchg = a.dchg; qchg = a.qchg; dupd = a.dupd }

abbrev pub control_flags : CtlDef → List Flags
control_flags k = map (λ (p : Parameter). no_flags) (parameters k)

-- by the numbers of the attributes: those of the lines, none for those that controls generate, those of the twins
abbrev pub attr_flags : Config → List Flags
attr_flags c = map line_flags c.attrs ++ (flat_map control_flags c.controls ++ map line_flags (filter is_setting c.attrs))

pub record IsTables (c : Config) (t : Tables) : Type 0 where
  pub finds : Finds c t.domains t.directories.items
  pub names : t.names.items ≡ node_names c
  pub nodes : t.nodes ≡ node_rows c
  pub sets : t.sets ≡ set_rows c
  pub stands : t.stands.items ≡ all_stands c
  pub leaves : t.leaves.items ≡ all_leaves c
