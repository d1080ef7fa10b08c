-- what the loops of `writing::add_attributes` keep
use Rattle.std.proofs.Common.{◌≡◌, ◌++◌, take, map}
use Rattle.cfg_lines.specs.declared.line.Line.TheVariants.{Attr}
use Rattle.cfg_writing.specs.Objects.{line_of}
use Rattle.cfg_writing.proofs.writing.add_attributes.Given as goal

abbrev pub invariant-loop-attr : goal.invariant-loop-attr
invariant-loop-attr l = map line_of l.out.items ≡ map line_of l.fn.out.items ++ map Attr (take l.attr-index l.attrs)
