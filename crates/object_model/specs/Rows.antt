-- What the row of a node says of it: its number, its type, its attributes, and whether it may be a member of a data set
-- (IEC 61850-7-2, DATA-SET), which its Data may be at most 500 octets for.
use Rattle.std.specs.Prelude.{◌≡◌, ℕ, ◌&&◌, nat_le, map}
use Rattle.sv_base.specs.declared.config.Config.{Config}
use Rattle.sv_base.specs.declared.numbers.AttrId.{AttrId}
use Rattle.bay_model.specs.declared.tables.NodeRow.{NodeRow}
use Rattle.bay_model.specs.Lookups.{node_of}
use Rattle.bay_model.specs.Named.{configured_model}
use Rattle.object_model.specs.Tables.{node_type}

pub record IsRowOf (c : Config) (n : ℕ) (r : NodeRow) : Type 0 where
  pub node : r.shape.node.0 ≡ n
  pub kind : r.shape.kind ≡ node_type c n
  pub attrs : map (λ (x : AttrId). x.0) r.shape.attrs ≡ (node_of (configured_model c) n).attrs
  pub allowed : r.allowed && nat_le r.octets 500 ≡ (node_of (configured_model c) n).allowed
