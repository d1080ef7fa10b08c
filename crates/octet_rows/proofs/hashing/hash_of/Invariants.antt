-- what the loops of `hashing::hash_of` keep
use Rattle.std.proofs.Common.{◌≡◌, take, fold}
use Rattle.octet_rows.specs.Hashing.{mixed_to, gathered}
use Rattle.octet_rows.specs.declared.hashing.RowHash.{RowHash}
use Rattle.octet_rows.proofs.hashing.hash_of.Given as goal

abbrev pub invariant-loop-octet : goal.invariant-loop-octet
invariant-loop-octet l = fold gathered (mixed_to l.mixed) (take l.octet-index l.rest) ≡ record { mixed = l.mixed; word = l.word; octets = l.octet-index }
