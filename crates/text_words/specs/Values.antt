-- The words of values.
use Rattle.std.specs.Prelude.{ℕ, ◌+◌, ◌*◌, ◌==◌, ◌&&◌, ◌||◌, nat_le, Bool, true, false, List, [], ◌∷◌, length, map, codes, Option, Some, None, Result, Ok, Err, if◌then◌else◌, Vec}
use Rattle.std.specs.List.{list_all}
use Rattle.std.specs.Str.{bytes_eq}
use Rattle.std.specs.declared.alloc.Global.{Global}
use Rattle.hex.specs.Hex.{decode_of}
use Rattle.hex.specs.declared.error.FromHexError.{FromHexError}
use Rattle.sv_base.specs.declared.value.Utc.{Utc}
use Rattle.sv_base.specs.declared.value.Value.{Value}
use Rattle.sv_base.specs.declared.value.Value.TheVariants as values
use Rattle.sv_base.specs.declared.types.TypeOf.{TypeOf}
use Rattle.sv_base.specs.declared.types.TypeOf.TheVariants as types
use Rattle.text_words.specs.Numbers.{number_within, int_at, greatest}

-- a value of what was read
abbrev pub read_as : {A : Type 0} → (A → Value) → Option A → Option Value
read_as kind None = None
read_as kind (Some a) = Some (kind a)

abbrev pub truth_at : List ℕ → Option Bool
truth_at word = if bytes_eq word (codes "T") then Some true else if bytes_eq word (codes "F") then Some false else None

-- n digits 0 and 1, the first bit first
abbrev pub is_binary : ℕ → Bool
is_binary octet = octet == 48 || octet == 49

abbrev pub bits_at : ℕ → List ℕ → Option (List Bool)
bits_at count word = if (length word == count) && list_all is_binary word then Some (map (λ octet. octet == 49) word) else None

-- visible and no space
abbrev pub is_graphic : ℕ → Bool
is_graphic octet = nat_le 33 octet && nat_le octet 126

-- `'` and at most n octets
abbrev pub text_at : ℕ → List ℕ → Option (List ℕ)
text_at most [] = None
text_at most (mark ∷ octets) = if (mark == 39) && nat_le (length octets) most && list_all is_graphic octets then Some octets else None

-- the list in a `Vec`, if there is one
abbrev pub option_items : Option (Vec ℕ Global) → Option (List ℕ)
option_items None = None
option_items (Some v) = Some v.items

-- a hexadecimal digit in lower case
abbrev pub is_hex : ℕ → Bool
is_hex octet = (nat_le 48 octet && nat_le octet 57) || (nat_le 97 octet && nat_le octet 102)

abbrev pub decoded : Result (List ℕ) FromHexError → Option (List ℕ)
decoded (Ok octets) = Some octets
decoded (Err fault) = None

-- the octets of a hexadecimal text
abbrev pub hex_at : List ℕ → Option (List ℕ)
hex_at digits = if list_all is_hex digits then decoded (decode_of digits) else None

-- `x` and at most n octets in hexadecimal
abbrev pub octets_at : ℕ → List ℕ → Option (List ℕ)
octets_at most [] = None
octets_at most (mark ∷ digits) = if (mark == 120) && nat_le (length digits) (2 * most) then hex_at digits else None

-- Seconds in four octets, units of 2^-24 seconds in three, the quality in one (ISO 9506-2, UtcTime).
abbrev pub utc_of : List ℕ → Option Utc
utc_of (a ∷ b ∷ c ∷ d ∷ e ∷ f ∷ g ∷ h ∷ []) = Some (record { secs = ((a * 256 + b) * 256 + c) * 256 + d; frac = (e * 256 + f) * 256 + g; quality = h })
utc_of _ = None

abbrev pub utc_read : Option (List ℕ) → Option Utc
utc_read None = None
utc_read (Some octets) = utc_of octets

-- sixteen hexadecimal digits
abbrev pub time_at : List ℕ → Option Utc
time_at word = if length word == 16 then utc_read (hex_at word) else None

-- the value of a type that a word spells
unfoldable pub value_at : TypeOf → List ℕ → Option Value
value_at types.Bool word = read_as values.Bool (truth_at word)
value_at (types.Int bits) word = read_as values.Int (int_at bits word)
value_at (types.Uint bits) word = read_as values.Uint (number_within 0 (greatest bits) word)
value_at (types.Bits count) word = read_as values.Bits (bits_at count word)
value_at types.Time word = read_as values.Time (time_at word)
value_at (types.Text most) word = read_as values.Text (text_at most word)
value_at (types.Octets most) word = read_as values.Octets (octets_at most word)
value_at _ word = None

abbrev pub one_more : Option Value → Option (List Value) → Option (List Value)
one_more (Some v) (Some vs) = Some (v ∷ vs)
one_more _ _ = None

abbrev pub values_at : TypeOf → List (List ℕ) → Option (List Value)
values_at kind [] = Some []
values_at kind (word ∷ words) = one_more (value_at kind word) (values_at kind words)

-- the values in a `Vec`, if there is one
abbrev pub option_values : Option (Vec Value Global) → Option (List Value)
option_values None = None
option_values (Some v) = Some v.items
