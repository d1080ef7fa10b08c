-- What the shapes of associations are.
use Rattle.std.specs.Prelude.{◌≤◌}
use Rattle.osi_stack.specs.Lines.{IsLine}
use Rattle.stream_lines.specs.declared.shape.Shape.{Shape}
use Rattle.stream_lines.specs.declared.shape.Shape.TheVariants as shapes

-- PDUs of an association have a size of 1024 to 65000 octets, and a line one that was agreed
abbrev pub IsShape : Shape → Type 0
IsShape shapes.Direct = Unit {0}
IsShape (shapes.Mms size) = (1024 ≤ size) × (size ≤ 65000)
IsShape (shapes.Wire line) = IsLine line
