-- what the loops of `writing::put_results` keep
use Rattle.std.proofs.Common.{◌≡◌, ◌++◌, take}
use Rattle.std.specs.List.{flat_map}
use Rattle.session_pres.specs.WrittenPpdu.{result_octets}
use Rattle.session_pres.proofs.writing.put_results.Given as goal

abbrev pub invariant-loop-place : goal.invariant-loop-place
invariant-loop-place l = l.out.items ≡ l.fn.out.items ++ flat_map result_octets (take l.place l.contexts)
