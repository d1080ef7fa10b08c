-- what the loops of `type_writing::len` keep
use Rattle.std.proofs.Common.{◌≡◌, length, take, min}
use Rattle.mms_data.specs.TypeOctets.{parts_octets}
use Rattle.mms_data.proofs.type_writing.+len.Given as goal

abbrev pub invariant-parts_len-loop-part : goal.invariant-parts_len-loop-part
invariant-parts_len-loop-part l = l.sum ≡ min (length (parts_octets (take l.part-index l.parts))) 4294967295
