-- what the loops of `attributes::push_generated` keep
use Rattle.std.proofs.Common.{◌≡◌, ◌++◌, flat_map, take}
use Rattle.name_leaves.specs.Attributes.{control_attrs, references_of, rows_of}
use Rattle.object_names.proofs.attributes.push_generated.Given as goal

abbrev pub invariant-loop-control : goal.invariant-loop-control
invariant-loop-control l = record {
  references : l.out.references ≡ l.initial.out.references ++ references_of (flat_map control_attrs (take l.control-index l.controls));
  rows : l.out.rows.items ≡ l.initial.out.rows.items ++ rows_of (flat_map control_attrs (take l.control-index l.controls));
}
