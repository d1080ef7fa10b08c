-- what the loops of `hashing::NameHasherHasher::write` keep
use Rattle.std.proofs.Common.{◌≡◌, ◌≤◌, length, take, fold}
use Rattle.name_leaves.specs.Hashing.{gathered}
use Rattle.name_leaves.proofs.hashing.NameHasherHasher.write.Given as goal

abbrev pub invariant-loop-octet : goal.invariant-loop-octet
invariant-loop-octet l = (l.octet-index ≤ length l.bytes) × (l.self.word ≡ fold gathered l.initial.self.word (take l.octet-index l.bytes))
