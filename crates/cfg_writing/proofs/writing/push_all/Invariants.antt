-- what the loops of `writing::push_all` keep
use Rattle.std.proofs.Common.{◌≡◌, ◌++◌, [], drop, map}
use Rattle.cfg_writing.specs.Objects.{line_of}
use Rattle.cfg_writing.specs.Written.{text_of, with_domains}
use Rattle.cfg_writing.proofs.writing.push_all.Given as goal

abbrev pub invariant-loop-object : goal.invariant-loop-object
invariant-loop-object l = l.out.items ++ text_of (with_domains l.before (map line_of (drop l.object-index l.objects))) ≡ l.fn.out.items ++ text_of (with_domains [] (map line_of l.objects))
