-- what the loops of `attributes::push_twins` keep
use Rattle.std.proofs.Common.{◌≡◌, ◌++◌, map, filter, take}
use Rattle.bay_model.specs.NamedLines.{is_setting}
use Rattle.name_leaves.specs.Attributes.{twin_attr, references_of, rows_of}
use Rattle.object_names.proofs.attributes.push_twins.Given as goal

abbrev pub invariant-loop-attr : goal.invariant-loop-attr
invariant-loop-attr l = record {
  references : l.out.references ≡ l.initial.out.references ++ references_of (map twin_attr (filter is_setting (take l.attr-index l.attrs)));
  rows : l.out.rows.items ≡ l.initial.out.rows.items ++ rows_of (map twin_attr (filter is_setting (take l.attr-index l.attrs)));
}
