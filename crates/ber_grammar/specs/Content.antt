-- What the content of an element of each kind spells (ITU-T X.690, 8.2, 8.3, 8.6 and 8.23).
use Rattle.std.specs.Prelude.{◌≡◌, ◌≢◌, ℕ, ◌+◌, ◌^◌, ◌<◌, ◌≤◌, ◌-◌, ◌*◌, ◌/◌, ◌%◌, ◌==◌, Bool, true, false, ℤ, pos, negsuc, List, [], ◌∷◌, length, take, slice_index}
use Rattle.std.specs.List.{flat_map}
use Rattle.ber_grammar.specs.declared.fault.BerFault.{BerFault}
use Rattle.ber_grammar.specs.declared.fault.BerFault.TheVariants.{BadNumber, BadText}
use Rattle.ber_grammar.specs.Octets.{big_endian}

-- A boolean is one octet, 0 where it is false and any other where it is true.
abbrev pub IsBoolean : List ℕ → Bool → Type 0
IsBoolean [] b = ⊥
IsBoolean (a ∷ []) true = a ≢ 0
IsBoolean (a ∷ []) false = a ≡ 0
IsBoolean (a ∷ b ∷ rest) c = ⊥

abbrev pub IsVisible : ℕ → Type 0
IsVisible octet = (32 ≤ octet) × (octet ≤ 126)

-- a visible string is its octets
abbrev pub IsText : List ℕ → List ℕ → Type 0
IsText content text = (text ≡ content) × ((k : ℕ) → k < length content → IsVisible (slice_index content k))

-- an octet is not visible
abbrev pub IsTextRefused : List ℕ → BerFault → Type 0
IsTextRefused content fault = (fault ≡ BadText) × (k : ℕ) × (k < length content) × ¬ IsVisible (slice_index content k)

-- An unsigned number is one to nine octets, of which the first is below 128: more would be negative.
abbrev pub IsUint : List ℕ → ℕ → Type 0
IsUint [] n = ⊥
IsUint (a ∷ rest) n = (length (a ∷ rest) ≤ 9) × (a < 128) × (n ≡ big_endian (a ∷ rest)) × (n < 2 ^ 64)

-- A number is one to nine octets in two's complement. Where the first is below 128 it is what these octets are. Else it
-- is negative: what they lack to the power of 256 with as many octets.
abbrev pub IsInt : List ℕ → ℤ → Type 0
IsInt [] v = ⊥
IsInt (a ∷ rest) (pos n) = (length (a ∷ rest) ≤ 9) × (a < 128) × (n ≡ big_endian (a ∷ rest)) × (n < 2 ^ 63)
IsInt (a ∷ rest) (negsuc n) = (length (a ∷ rest) ≤ 9) × (128 ≤ a) × (n + 1 + big_endian (a ∷ rest) ≡ 256 ^ length (a ∷ rest)) × (n < 2 ^ 63)

-- no number of the type is spelled
abbrev pub IsUintRefused : List ℕ → BerFault → Type 0
IsUintRefused content fault = (fault ≡ BadNumber) × ((n : ℕ) → ¬ IsUint content n)

abbrev pub IsIntRefused : List ℕ → BerFault → Type 0
IsIntRefused content fault = (fault ≡ BadNumber) × ((v : ℤ) → ¬ IsInt content v)

-- the eight bits of an octet, the highest first
abbrev pub octet_bits : ℕ → List Bool
octet_bits o = (o / 128 % 2 == 1) ∷ (o / 64 % 2 == 1) ∷ (o / 32 % 2 == 1) ∷ (o / 16 % 2 == 1) ∷ (o / 8 % 2 == 1) ∷ (o / 4 % 2 == 1) ∷ (o / 2 % 2 == 1) ∷ (o % 2 == 1) ∷ []

-- the bits of octets, but for those that are unused at the end
unfoldable pub bits_of : ℕ → List ℕ → List Bool
bits_of unused octets = take (8 * length octets - unused) (flat_map octet_bits octets)

-- A bit string is how many bits of its last octet are unused, at most seven and none where there is no octet, and octets.
abbrev pub IsBits : List ℕ → List Bool → Type 0
IsBits [] bits = ⊥
IsBits (unused ∷ octets) bits = (unused ≤ 7) × (length octets ≡ 0 → unused ≡ 0) × (bits ≡ bits_of unused octets)

abbrev pub IsBitsRefused : List ℕ → BerFault → Type 0
IsBitsRefused content fault = (fault ≡ BadNumber) × ((bits : List Bool) → ¬ IsBits content bits)
