-- what the loops of `type_writing::put` keep
use Rattle.std.proofs.Common.{◌≡◌, ◌++◌, take}
use Rattle.mms_data.specs.TypeOctets.{parts_octets}
use Rattle.mms_data.proofs.type_writing.+put.Given as goal

abbrev pub invariant-put_parts-loop-part : goal.invariant-put_parts-loop-part
invariant-put_parts-loop-part l = l.out.items ≡ l.fn.out.items ++ parts_octets (take l.part-index l.parts)
