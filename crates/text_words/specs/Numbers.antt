-- Numbers in decimal, without leading zeros.
use Rattle.std.specs.Prelude.{ℕ, zero, suc, ◌^◌, ◌<◌, ◌==◌, ◌&&◌, nat_lt, nat_le, ℤ, pos, negsuc, List, codes, Option, Some, None, if◌then◌else◌}
use Rattle.std.specs.Fmt.{decimal}
use Rattle.std.specs.Str.{bytes_eq}
use Rattle.std.specs.Str.Parse.{AllDigits, digits_value}
use Rattle.text_words.specs.Words.{behind}

-- digits alone, of a number below 2^64; zeros may lead
abbrev pub AreDigitsOf64 : List ℕ → Type 0
AreDigitsOf64 octets = AllDigits 10 octets × (digits_value 10 octets < 2 ^ 64)

-- the number that the octets spell, if it is below 2^64
unfoldable pub number_at : List ℕ → Option ℕ
number_at octets = if nat_lt (digits_value 10 octets) (2 ^ 64) && bytes_eq (decimal (digits_value 10 octets)) octets then Some (digits_value 10 octets) else None

-- the number, if it is within these bounds
abbrev pub within : ℕ → ℕ → Option ℕ → Option ℕ
within least most None = None
within least most (Some n) = if nat_le least n && nat_le n most then Some n else None

abbrev pub number_within : ℕ → ℕ → List ℕ → Option ℕ
number_within least most octets = within least most (number_at octets)

-- the number with its sign turned round
abbrev pub minus : ℕ → ℤ
minus zero = pos 0
minus (suc n) = negsuc n

-- how many numbers of n bits are negative
abbrev pub negatives : ℕ → ℕ
negatives bits = if bits == 8 then 128 else if bits == 16 then 32768 else if bits == 32 then 2147483648 else 9223372036854775808

abbrev pub positive_at : ℕ → Option ℕ → Option ℤ
positive_at least None = None
positive_at least (Some n) = if nat_lt n least then Some (pos n) else None

abbrev pub negative_at : ℕ → Option ℕ → Option ℤ
negative_at least None = None
negative_at least (Some n) = if nat_le n least then Some (minus n) else None

-- with what stands after a `-`, if there is one
abbrev pub signed_at : ℕ → List ℕ → Option (List ℕ) → Option ℤ
signed_at bits octets (Some digits) = negative_at (negatives bits) (number_at digits)
signed_at bits octets None = positive_at (negatives bits) (number_at octets)

-- a signed number of n bits; `-` may stand before 0 too
abbrev pub int_at : ℕ → List ℕ → Option ℤ
int_at bits octets = signed_at bits octets (behind (codes "-") octets)

-- the greatest number of n bits
abbrev pub greatest : ℕ → ℕ
greatest bits = if bits == 8 then 255 else if bits == 16 then 65535 else 4294967295
