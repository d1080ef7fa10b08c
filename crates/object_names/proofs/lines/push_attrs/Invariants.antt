-- what the loops of `lines::push_attrs` keep
use Rattle.std.proofs.Common.{◌≡◌, ◌++◌, drop}
use Rattle.bay_model.specs.NamedLines.{attribute_lines}
use Rattle.object_names.specs.Items.{AreReferenced}
use Rattle.object_names.proofs.lines.push_attrs.Given as goal

abbrev pub invariant-loop-attr : goal.invariant-loop-attr
invariant-loop-attr l = record {
  referenced : AreReferenced l.references l.number l.twin (drop l.attr-index l.attrs);
  pushed : l.out.items ++ attribute_lines l.number l.twin (drop l.attr-index l.attrs) ≡ l.initial.out.items ++ attribute_lines 0 l.first_twin l.attrs;
}
