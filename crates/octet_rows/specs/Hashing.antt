-- The number of a row of octets: eight octets at a time are mixed into what stands before them.
use Rattle.std.specs.Prelude.{ℕ, ◌==◌, ◌%◌, ◌*◌, ◌+◌, ◌^◌, List, fold, bit_xor, if◌then◌else◌}
use Rattle.std.specs.Int.{w64, rotate_left}
use Rattle.octet_rows.specs.declared.hashing.RowHash.{RowHash}

abbrev pub mixed_with : ℕ → ℕ → ℕ
mixed_with before word = (bit_xor (rotate_left w64 before 5) word * 5871781006564002453) % 2 ^ 64

abbrev pub word_with : ℕ → ℕ → ℕ
word_with word octet = bit_xor (rotate_left w64 word 8) octet

-- whole words are mixed to this, and no octet is after them
abbrev pub mixed_to : ℕ → RowHash
mixed_to mixed = record { mixed = mixed; word = 0; octets = 0 }

abbrev pub nothing : RowHash
nothing = mixed_to 0

abbrev pub gathered_in : RowHash → ℕ → RowHash
gathered_in h word = if h.octets == 7 then record { mixed = mixed_with h.mixed word; word = 0; octets = 0 } else record { mixed = h.mixed; word = word; octets = (h.octets + 1) % 2 ^ 8 }

-- with one octet more
abbrev pub gathered : RowHash → ℕ → RowHash
gathered h octet = gathered_in h (word_with h.word octet)

abbrev pub number_of : RowHash → ℕ
number_of h = mixed_with h.mixed h.word

abbrev pub hash_at : List ℕ → ℕ
hash_at row = number_of (fold gathered nothing row)
