-- The objects that the writer has in hand.
use Rattle.cfg_lines.specs.declared.line.Line.{Line}
use Rattle.cfg_lines.specs.declared.line.Line.TheVariants as lines
use Rattle.cfg_writing.specs.declared.writing.Object.{Object}
use Rattle.cfg_writing.specs.declared.writing.Object.TheVariants as objects

-- the line of an object
abbrev pub line_of : Object → Line
line_of (objects.Node node) = lines.Ln node.now
line_of (objects.Attribute attr) = lines.Attr attr.now
line_of (objects.Set set) = lines.Set set.now
line_of (objects.Block block) = lines.Brcb block.now
line_of (objects.Control control) = lines.Ctl control.now
line_of (objects.Groups groups) = lines.Sgcb groups.now
