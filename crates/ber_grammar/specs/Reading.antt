-- Reading from left to right, with the first fault that is met.
use Rattle.std.specs.Prelude.{ℕ, zero, suc, ◌+◌, ◌-◌, ◌*◌, ◌%◌, ◌^◌, ℤ, pos, negsuc, Bool, true, ◌&&◌, not, nat_le, List, [], ◌∷◌, length, take, drop, Result, Ok, Err, nat_lt, ◌==◌, if◌then◌else◌}
use Rattle.ber_grammar.specs.declared.fault.BerFault.{BerFault}
use Rattle.ber_grammar.specs.declared.fault.BerFault.TheVariants.{Short, LongLength, Indefinite, BadTag, BadNumber, BadText}
use Rattle.ber_grammar.specs.Reader.{◌>>=◌}
use Rattle.ber_grammar.specs.Octets.{big_endian}
use Rattle.ber_grammar.specs.Element.{Element}
use Rattle.ber_grammar.specs.Content.{bits_of}

-- Each reader gives a value and the octets after it.
abbrev pub third_at : ℕ → ℕ → List ℕ → Result (ℕ × List ℕ) BerFault
third_at a b [] = Err Short
third_at a b (c ∷ rest) = if nat_lt c 128 then Ok ((a * 256 + b) * 256 + c, rest) else Err BadTag

abbrev pub second_at : ℕ → List ℕ → Result (ℕ × List ℕ) BerFault
second_at a [] = Err Short
second_at a (b ∷ rest) = if nat_lt b 128 then Ok (a * 256 + b, rest) else third_at a b rest

unfoldable pub tag_at : List ℕ → Result (ℕ × List ℕ) BerFault
tag_at [] = Err Short
tag_at (a ∷ rest) = if a % 32 == 31 then second_at a rest else Ok (a, rest)

unfoldable pub number_at : ℕ → List ℕ → Result (ℕ × List ℕ) BerFault
number_at k octets = if nat_lt (length octets) k then Err Short else Ok (big_endian (take k octets), drop k octets)

unfoldable pub length_at : List ℕ → Result (ℕ × List ℕ) BerFault
length_at [] = Err Short
length_at (a ∷ rest) = if nat_lt a 128 then Ok (a, rest) else if a == 128 then Err Indefinite else if nat_lt 132 a then Err LongLength else number_at (a - 128) rest

unfoldable pub first_at : List ℕ → Result (Element × List ℕ) BerFault
first_at octets = do
  tag ← tag_at octets
  len ← length_at tag.1
  if nat_lt (length len.1) len.0 then Err Short else Ok (record { tag = tag.0; head = length octets - length len.1; content = take len.0 len.1 }, drop len.0 len.1)

-- ---- content

-- a boolean, or the fault that its reader has
abbrev pub boolean_at : {F : Type 0} → F → List ℕ → Result Bool F
boolean_at fault [] = Err fault
boolean_at fault (a ∷ []) = Ok (not (a == 0))
boolean_at fault (a ∷ b ∷ rest) = Err fault

unfoldable pub uint_at : List ℕ → Result ℕ BerFault
uint_at [] = Err BadNumber
uint_at (zero ∷ rest) = if nat_lt 8 (length rest) then Err BadNumber else Ok (big_endian rest)
uint_at (suc a ∷ rest) = if nat_lt (suc a) 128 then (if nat_lt 8 (length (suc a ∷ rest)) then Err BadNumber else Ok (big_endian (suc a ∷ rest))) else Err BadNumber

-- what octets lack to the greatest number of as many
abbrev pub lack : List ℕ → ℕ
lack octets = 256 ^ length octets - 1 - big_endian octets

abbrev pub positive : ℕ → Result ℤ BerFault
positive n = if nat_lt n (2 ^ 63) then Ok (pos n) else Err BadNumber

abbrev pub negative : ℕ → Result ℤ BerFault
negative n = if nat_lt n (2 ^ 63) then Ok (negsuc n) else Err BadNumber

unfoldable pub int_at : List ℕ → Result ℤ BerFault
int_at [] = Err BadNumber
int_at (a ∷ rest) = if a == 255 then (if nat_lt 8 (length rest) then Err BadNumber else negative (lack rest))
    else if nat_lt a 128 then (uint_at (a ∷ rest) >>= λ n. positive n)
    else if nat_lt 8 (length (a ∷ rest)) then Err BadNumber else negative (lack (a ∷ rest))

abbrev pub all_visible : List ℕ → Bool
all_visible [] = true
all_visible (a ∷ rest) = nat_le 32 a && nat_le a 126 && all_visible rest

unfoldable pub text_at : List ℕ → Result (List ℕ) BerFault
text_at content = if all_visible content then Ok content else Err BadText

unfoldable pub bits_at : List ℕ → Result (List Bool) BerFault
bits_at [] = Err BadNumber
bits_at (unused ∷ octets) = if nat_lt 7 unused then Err BadNumber
    else if length octets == 0 && nat_lt 0 unused then Err BadNumber else Ok (bits_of unused octets)
