-- what the loops of `spelling::push_members` keep
use Rattle.std.proofs.Common.{◌≡◌, ◌++◌, take, map}
use Rattle.cfg_lines.specs.declared.line.Line.TheVariants.{Member}
use Rattle.cfg_writing.specs.Written.{text_of}
use Rattle.cfg_writing.proofs.spelling.push_members.Given as goal

abbrev pub invariant-loop-reference : goal.invariant-loop-reference
invariant-loop-reference l = l.out.items ≡ l.fn.out.items ++ text_of (map Member (take l.reference-index l.references))
