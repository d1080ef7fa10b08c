-- what the loops of `attributes::push_lines` keep
use Rattle.std.proofs.Common.{◌≡◌, ◌++◌, map, take}
use Rattle.name_leaves.specs.Attributes.{line_attr, references_of, rows_of}
use Rattle.object_names.proofs.attributes.push_lines.Given as goal

abbrev pub invariant-loop-attr : goal.invariant-loop-attr
invariant-loop-attr l = record {
  references : l.out.references ≡ l.initial.out.references ++ references_of (map line_attr (take l.attr-index l.attrs));
  rows : l.out.rows.items ≡ l.initial.out.rows.items ++ rows_of (map line_attr (take l.attr-index l.attrs));
}
