-- what the loops of `writing::add_nodes` keep
use Rattle.std.proofs.Common.{◌≡◌, ◌++◌, take, map}
use Rattle.cfg_lines.specs.declared.line.Line.TheVariants.{Ln}
use Rattle.cfg_writing.specs.Objects.{line_of}
use Rattle.cfg_writing.proofs.writing.add_nodes.Given as goal

abbrev pub invariant-loop-node : goal.invariant-loop-node
invariant-loop-node l = map line_of l.out.items ≡ map line_of l.fn.out.items ++ map Ln (take l.node-index l.nodes)
