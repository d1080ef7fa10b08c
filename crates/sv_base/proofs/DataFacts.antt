-- The octets of Data by example, so that a slip in its definition is refused; and depths.
use Rattle.std.proofs.Common.{◌≡◌, ℕ, pos, negsuc, ◌^◌, ◌-◌, ◌/◌, ◌%◌, Bool, true, false, List, [], ◌∷◌, replicate, refl}
use Rattle.std.specs.Prelude.{◌==◌}
use Rattle.sv_base.specs.Tree.{Seen, plain, structure, none, more, truth, int, uint, bits, time, stamp, text, other}
use Rattle.sv_base.specs.Data.{data_seen, length_field}
use Rattle.sv_base.specs.Depth.{depth_seen}

true-octets : data_seen (plain (truth true)) ≡ 0x83 ∷ 1 ∷ 0xff ∷ []
true-octets = refl

false-octets : data_seen (plain (truth false)) ≡ 0x83 ∷ 1 ∷ 0 ∷ []
false-octets = refl

-- the edges of one octet and of two
zero-octets : data_seen (plain (int (pos 0))) ≡ 0x85 ∷ 1 ∷ 0 ∷ []
zero-octets = refl

int_127-octets : data_seen (plain (int (pos 127))) ≡ 0x85 ∷ 1 ∷ 0x7f ∷ []
int_127-octets = refl

int_128-octets : data_seen (plain (int (pos 128))) ≡ 0x85 ∷ 2 ∷ 0 ∷ 0x80 ∷ []
int_128-octets = refl

int_300-octets : data_seen (plain (int (pos 300))) ≡ 0x85 ∷ 2 ∷ 1 ∷ 0x2c ∷ []
int_300-octets = refl

minus_1-octets : data_seen (plain (int (negsuc 0))) ≡ 0x85 ∷ 1 ∷ 0xff ∷ []
minus_1-octets = refl

minus_128-octets : data_seen (plain (int (negsuc 127))) ≡ 0x85 ∷ 1 ∷ 0x80 ∷ []
minus_128-octets = refl

minus_129-octets : data_seen (plain (int (negsuc 128))) ≡ 0x85 ∷ 2 ∷ 0xff ∷ 0x7f ∷ []
minus_129-octets = refl

least-octets : data_seen (plain (int (negsuc (2 ^ 63 - 1)))) ≡ 0x85 ∷ 8 ∷ 0x80 ∷ 0 ∷ 0 ∷ 0 ∷ 0 ∷ 0 ∷ 0 ∷ 0 ∷ []
least-octets = refl

uint_128-octets : data_seen (plain (uint 128)) ≡ 0x86 ∷ 2 ∷ 0 ∷ 0x80 ∷ []
uint_128-octets = refl

greatest-octets : data_seen (plain (uint (2 ^ 64 - 1))) ≡ 0x86 ∷ 9 ∷ 0 ∷ 0xff ∷ 0xff ∷ 0xff ∷ 0xff ∷ 0xff ∷ 0xff ∷ 0xff ∷ 0xff ∷ []
greatest-octets = refl

no_bits-octets : data_seen (plain (bits [])) ≡ 0x84 ∷ 1 ∷ 0 ∷ []
no_bits-octets = refl

-- the example of X.690, 8.6.4.2: the 44 bits 0A3B5F291CD
abbrev nibbles : List ℕ → List Bool
nibbles [] = []
nibbles (d ∷ ds) = (d / 8 % 2 == 1) ∷ (d / 4 % 2 == 1) ∷ (d / 2 % 2 == 1) ∷ (d % 2 == 1) ∷ nibbles ds

bits_44-octets : data_seen (plain (bits (nibbles (0 ∷ 10 ∷ 3 ∷ 11 ∷ 5 ∷ 15 ∷ 2 ∷ 9 ∷ 1 ∷ 12 ∷ 13 ∷ [])))) ≡ 0x84 ∷ 7 ∷ 4 ∷ 0x0a ∷ 0x3b ∷ 0x5f ∷ 0x29 ∷ 0x1c ∷ 0xd0 ∷ []
bits_44-octets = refl

text-octets : data_seen (plain (text (69 ∷ 118 ∷ 49 ∷ []))) ≡ 0x8a ∷ 3 ∷ 69 ∷ 118 ∷ 49 ∷ []
text-octets = refl

-- noon on 2 January 1984
stamp-octets : data_seen (plain (stamp 43200000 1)) ≡ 0x8c ∷ 6 ∷ 2 ∷ 0x93 ∷ 0x2e ∷ 0 ∷ 0 ∷ 1 ∷ []
stamp-octets = refl

time-octets : data_seen (plain (time 1 0x800000 0x0a)) ≡ 0x91 ∷ 8 ∷ 0 ∷ 0 ∷ 0 ∷ 1 ∷ 0x80 ∷ 0 ∷ 0 ∷ 0x0a ∷ []
time-octets = refl

-- a status: a boolean, a quality of 13 bits, a time
status : Seen
status = structure (more (plain (truth true)) (more (plain (bits (replicate 13 false))) (more (plain (time 0 0 0)) none)))

status-octets : data_seen status ≡ 0xa2 ∷ 0x12 ∷ 0x83 ∷ 1 ∷ 0xff ∷ 0x84 ∷ 3 ∷ 3 ∷ 0 ∷ 0 ∷ 0x91 ∷ 8 ∷ 0 ∷ 0 ∷ 0 ∷ 0 ∷ 0 ∷ 0 ∷ 0 ∷ 0 ∷ []
unfolding status
status-octets = refl

-- X.690, 8.1.3.5: the length 201 is 81 C9
length_201-octets : length_field 201 ≡ 0x81 ∷ 0xc9 ∷ []
length_201-octets = refl

length_127-octets : length_field 127 ≡ 0x7f ∷ []
length_127-octets = refl

length_128-octets : length_field 128 ≡ 0x81 ∷ 0x80 ∷ []
length_128-octets = refl

length_256-octets : length_field 256 ≡ 0x82 ∷ 1 ∷ 0 ∷ []
length_256-octets = refl

status-depth : depth_seen status ≡ 2
unfolding status
status-depth = refl

empty-depth : depth_seen (structure none) ≡ 1
empty-depth = refl

nested-depth : depth_seen (structure (more (plain other) (more (structure (more (structure none) none)) none))) ≡ 3
nested-depth = refl
