-- The octets of a bit string, with 0 for the bits that are unused (ITU-T X.690, 8.6 and 11.2.1).
use Rattle.std.specs.Prelude.{◌≡◌, ℕ, ◌+◌, ◌-◌, ◌%◌, Bool, false, List, [], ◌∷◌, ◌++◌, length, replicate, unwrap_or, slice_get, if◌then◌else◌}
use Rattle.std.specs.List.{flat_map}
use Rattle.ber_grammar.specs.Content.{octet_bits}

-- what a bit counts
abbrev pub weigh : Bool → ℕ → ℕ
weigh b weight = if b then weight else 0

-- the octet that has these bits, the highest first
abbrev pub octet : Bool → Bool → Bool → Bool → Bool → Bool → Bool → Bool → ℕ
octet a b c d e f g h = weigh a 128 + weigh b 64 + weigh c 32 + weigh d 16 + weigh e 8 + weigh f 4 + weigh g 2 + weigh h 1

-- eight bits an octet; after the last bits stand 0s
abbrev pub packed : List Bool → List ℕ
packed [] = []
packed (a ∷ []) = octet a false false false false false false false ∷ []
packed (a ∷ b ∷ []) = octet a b false false false false false false ∷ []
packed (a ∷ b ∷ c ∷ []) = octet a b c false false false false false ∷ []
packed (a ∷ b ∷ c ∷ d ∷ []) = octet a b c d false false false false ∷ []
packed (a ∷ b ∷ c ∷ d ∷ e ∷ []) = octet a b c d e false false false ∷ []
packed (a ∷ b ∷ c ∷ d ∷ e ∷ f ∷ []) = octet a b c d e f false false ∷ []
packed (a ∷ b ∷ c ∷ d ∷ e ∷ f ∷ g ∷ []) = octet a b c d e f g false ∷ []
packed (a ∷ b ∷ c ∷ d ∷ e ∷ f ∷ g ∷ h ∷ rest) = octet a b c d e f g h ∷ packed rest

-- how many bits of the last octet are unused
abbrev pub unused_of : ℕ → ℕ
unused_of count = (8 - count % 8) % 8

-- how many bits of the last octet are unused, and the octets
unfoldable pub bit_octets : List Bool → List ℕ
bit_octets bits = unused_of (length bits) ∷ packed bits

-- the octet of the first bits, with 0 for those that lack
abbrev pub bit_or_zero : List Bool → ℕ → Bool
bit_or_zero bits place = unwrap_or (slice_get bits place) false

abbrev pub first_octet : List Bool → ℕ
first_octet bits = octet (bit_or_zero bits 0) (bit_or_zero bits 1) (bit_or_zero bits 2) (bit_or_zero bits 3) (bit_or_zero bits 4) (bit_or_zero bits 5) (bit_or_zero bits 6) (bit_or_zero bits 7)

-- the bits that the content has after its own are 0
abbrev pub HasClearEnd : List ℕ → List Bool → Type 0
HasClearEnd [] bits = ⊥
HasClearEnd (unused ∷ octets) bits = flat_map octet_bits octets ≡ bits ++ replicate unused false
