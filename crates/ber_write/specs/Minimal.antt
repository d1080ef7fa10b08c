-- The one minimal spelling of an element and of a number (ITU-T X.690, 8.1.2, 8.1.3 and 8.3.2).
use Rattle.std.specs.Prelude.{◌≡◌, ℕ, ℤ, pos, negsuc, Bool, false, ◌==◌, ◌&&◌, ◌||◌, nat_le, ◌+◌, ◌-◌, ◌/◌, ◌%◌, ◌<◌, ◌^◌, List, [], ◌∷◌, ◌++◌, length, nat_lt, if◌then◌else◌}
use Rattle.std.specs.Int.{w64, to_be_bytes}
use Rattle.ber_grammar.specs.Element.{Element, IsTag}

-- a tag's octets, up to three
abbrev pub tag_octets : ℕ → List ℕ
tag_octets t = if nat_lt t 256 then t ∷ [] else if nat_lt t 65536 then t / 256 ∷ t % 256 ∷ [] else t / 65536 % 256 ∷ t / 256 % 256 ∷ t % 256 ∷ []

-- the fewest octets of a length
abbrev pub length_octets : ℕ → List ℕ
length_octets n = if nat_lt n 128 then n ∷ []
    else if nat_lt n 256 then 129 ∷ n ∷ []
    else if nat_lt n 65536 then 130 ∷ n / 256 ∷ n % 256 ∷ []
    else if nat_lt n 16777216 then 131 ∷ n / 65536 ∷ n / 256 % 256 ∷ n % 256 ∷ []
    else 132 ∷ n / 16777216 ∷ n / 65536 % 256 ∷ n / 256 % 256 ∷ n % 256 ∷ []

-- what stands before a content of this length
abbrev pub head_octets : ℕ → ℕ → List ℕ
head_octets tag len = tag_octets tag ++ length_octets len

-- the element's octets
abbrev pub octets_of : ℕ → List ℕ → List ℕ
octets_of tag content = tag_octets tag ++ (length_octets (length content) ++ content)

-- how many they are, under a tag of one octet, with a content of that many
unfoldable pub element_size : ℕ → ℕ
element_size n = 1 + (length (length_octets n) + n)

-- the element that they spell
abbrev pub written : ℕ → List ℕ → Element
written tag content = record { tag = tag; head = length (tag_octets tag) + length (length_octets (length content)); content = content }

-- A reader can give this tag: its octets spell it.
abbrev pub CanBeTag : ℕ → Type 0
CanBeTag tag = IsTag (tag_octets tag) tag

-- The first octet says no more than the sign that the second shows too.
abbrev pub is_spare : ℕ → ℕ → Bool
is_spare a b = (a == 0 && nat_lt b 128) || (a == 255 && nat_le 128 b)

-- without spare octets in front
abbrev pub strip_from : ℕ → List ℕ → List ℕ
strip_from a [] = a ∷ []
strip_from a (b ∷ rest) = if is_spare a b then strip_from b rest else a ∷ b ∷ rest

abbrev pub strip : List ℕ → List ℕ
strip [] = []
strip (a ∷ rest) = strip_from a rest

-- the fewest octets of an unsigned number, and of a signed one
unfoldable pub uint_octets : ℕ → List ℕ
uint_octets n = strip (0 ∷ to_be_bytes w64 n)

-- nine octets of a signed number
abbrev pub nine_octets : ℤ → List ℕ
nine_octets (pos n) = 0 ∷ to_be_bytes w64 n
nine_octets (negsuc n) = 255 ∷ to_be_bytes w64 (2 ^ 64 - 1 - n)

unfoldable pub int_octets : ℤ → List ℕ
int_octets v = strip (nine_octets v)

-- what an i64 can be
abbrev pub IsWord : ℤ → Type 0
IsWord (pos n) = n < 2 ^ 63
IsWord (negsuc n) = n < 2 ^ 63

-- The first nine bits aren't all the same, as X.690, 8.3.2 demands.
abbrev pub HasNoSpare : List ℕ → Type 0
HasNoSpare [] = ⊥
HasNoSpare (a ∷ []) = Unit {0}
HasNoSpare (a ∷ b ∷ rest) = is_spare a b ≡ false
