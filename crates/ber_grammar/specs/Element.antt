-- How a BER element is spelled, by cases on its octets (ITU-T X.690, 8.1).
use Rattle.std.specs.Prelude.{◌≡◌, ◌≢◌, ℕ, ◌+◌, ◌*◌, ◌%◌, ◌<◌, ◌≤◌, List, [], ◌∷◌, ◌++◌, length}
use Rattle.ber_grammar.specs.Octets.{big_endian}
use Rattle.ber_grammar.specs.declared.fault.BerFault.{BerFault}
use Rattle.ber_grammar.specs.declared.fault.BerFault.TheVariants.{Short, LongLength, Indefinite, BadTag, BadNumber, BadText}

-- an element, without where it lies in memory
pub record Element : Type 0 where
  pub tag : ℕ
  pub head : ℕ
  pub content : List ℕ

-- One octet, unless its low five bits are all set. Then one more below 128, or one from 128 on and one below. A small tag
-- number in a long form is a tag too.
abbrev pub IsTag : List ℕ → ℕ → Type 0
IsTag [] tag = ⊥
IsTag (a ∷ []) tag = (a % 32 ≢ 31) × (tag ≡ a)
IsTag (a ∷ b ∷ []) tag = (a % 32 ≡ 31) × (b < 128) × (tag ≡ a * 256 + b)
IsTag (a ∷ b ∷ c ∷ []) tag = (a % 32 ≡ 31) × (128 ≤ b) × (c < 128) × (tag ≡ (a * 256 + b) * 256 + c)
IsTag (a ∷ b ∷ c ∷ d ∷ more) tag = ⊥

-- One octet below 128 is the length itself. Else it is 128 and how many octets follow, one to four, and these
-- are the length, as long as one likes.
abbrev pub IsLength : List ℕ → ℕ → Type 0
IsLength [] len = ⊥
IsLength (a ∷ []) len = (a < 128) × (len ≡ a)
IsLength (a ∷ b ∷ more) len = (a ≡ 128 + length (b ∷ more)) × (length (b ∷ more) ≤ 4) × (len ≡ big_endian (b ∷ more))

-- the octets are the element, all of them
pub record Spells (octets : List ℕ) (e : Element) : Type 0 where
  pub tag : List ℕ
  pub len : List ℕ
  pub is_tag : IsTag tag e.tag
  pub is_length : IsLength len (length e.content)
  pub head : e.head ≡ length tag + length len
  pub whole : octets ≡ tag ++ (len ++ e.content)

-- the input is the element, and then the rest
abbrev pub Begins : List ℕ → Element → List ℕ → Type 0
Begins input e rest = (front : List ℕ) × Spells front e × (input ≡ front ++ rest)

-- What the input is where it is refused.
abbrev pub IsRefused : List ℕ → BerFault → Type 0
-- it ends inside an element
IsRefused input Short = (more : List ℕ) × (e : Element) × (0 < length more) × Spells (input ++ more) e
-- a third octet of a tag says that more follow
IsRefused input BadTag = (a b c : ℕ) × (rest : List ℕ) × (a % 32 ≡ 31) × (128 ≤ b) × (128 ≤ c) × (input ≡ a ∷ b ∷ c ∷ rest)
-- after a tag stands 128
IsRefused input Indefinite = (octets : List ℕ) × (tag : ℕ) × (rest : List ℕ) × IsTag octets tag × (input ≡ octets ++ 128 ∷ rest)
-- after a tag stands an octet that says that more than four follow (four spell no length above 4294967295)
IsRefused input LongLength = (octets : List ℕ) × (tag a : ℕ) × (rest : List ℕ) × IsTag octets tag × (132 < a) × (input ≡ octets ++ a ∷ rest)
-- no other refusal is of an element
IsRefused input BadNumber = ⊥
IsRefused input BadText = ⊥

-- the octets are these elements, one after another
abbrev pub IsRow : List ℕ → List Element → Type 0
IsRow octets [] = octets ≡ []
IsRow octets (e ∷ es) = (front rest : List ℕ) × Spells front e × (octets ≡ front ++ rest) × IsRow rest es

-- whole elements stand in front of octets that begin none
abbrev pub IsRowRefused : List ℕ → BerFault → Type 0
IsRowRefused octets f = (es : List Element) × (front rest : List ℕ) × IsRow front es × (octets ≡ front ++ rest) × (0 < length rest) × IsRefused rest f
