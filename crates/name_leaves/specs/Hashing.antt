-- How the octets of a name are hashed: they are gathered in a word of 64 bits, which is mixed at the end.
use Rattle.std.specs.Prelude.{ℕ, List, fold, bit_xor}
use Rattle.std.specs.Int.{w64, rotate_left}
use Rattle.std.specs.Hash as fed
use Rattle.std.specs.Hash.FoldHasher as folding
use Rattle.name_leaves.specs.declared.hashing.NameHasher.{NameHasher}

-- the word with one octet more
abbrev pub gathered : ℕ → ℕ → ℕ
gathered word octet = bit_xor (rotate_left w64 word 5) octet

abbrev pub with_octets : NameHasher → List ℕ → NameHasher
with_octets hasher octets = record { word = fold gathered hasher.word octets }

abbrev pub mixed : NameHasher → ℕ
mixed hasher = folding.finish (fold folding.write folding.initial (fed.u64 hasher.word))
