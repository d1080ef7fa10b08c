-- How numbers, values, types and trigger options are spelled.
use Rattle.std.specs.Prelude.{ℕ, ◌/◌, ◌%◌, Bool, List, [], ◌∷◌, ◌++◌, map, codes, if◌then◌else◌}
use Rattle.std.specs.Fmt.{decimal, signed_decimal}
use Rattle.std.specs.Int.{to_be_bytes, w32}
use Rattle.hex.specs.Hex.{encode_lower}
use Rattle.sv_base.specs.declared.value.Utc.{Utc}
use Rattle.sv_base.specs.declared.value.Value.{Value}
use Rattle.sv_base.specs.declared.value.Value.TheVariants as values
use Rattle.sv_base.specs.declared.types.TypeOf.{TypeOf}
use Rattle.sv_base.specs.declared.types.TypeOf.TheVariants as types

abbrev pub truth_word : Bool → List ℕ
truth_word b = if b then codes "T" else codes "F"

-- digits 0 and 1, the first bit first
abbrev pub bits_word : List Bool → List ℕ
bits_word bits = map (λ b. if b then 49 else 48) bits

-- `'` and the octets
abbrev pub text_word : List ℕ → List ℕ
text_word octets = 39 ∷ octets

-- Seconds in four octets, units of 2^-24 seconds in three, the quality in one (ISO 9506-2, UtcTime).
abbrev pub time_octets : Utc → List ℕ
time_octets t = to_be_bytes w32 t.secs ++ ((t.frac / 65536) % 256 ∷ (t.frac / 256) % 256 ∷ t.frac % 256 ∷ t.quality ∷ [])

unfoldable pub value_word : Value → List ℕ
value_word (values.Bool b) = truth_word b
value_word (values.Int z) = signed_decimal z
value_word (values.Uint n) = decimal n
value_word (values.Bits bits) = bits_word bits
value_word (values.Time t) = encode_lower (time_octets t)
value_word (values.Text octets) = text_word octets
value_word (values.Octets octets) = 120 ∷ encode_lower octets
value_word _ = []

-- the shortest word of a type
unfoldable pub type_word : TypeOf → List ℕ
type_word types.Bool = codes "bool"
type_word (types.Int bits) = codes "int" ++ decimal bits
type_word (types.Uint bits) = codes "uint" ++ decimal bits
type_word (types.Bits count) = codes "bits" ++ decimal count
type_word types.Time = codes "time"
type_word (types.Text most) = codes "text" ++ decimal most
type_word (types.Octets most) = codes "octets" ++ decimal most
type_word _ = []

-- the letters d, q and u of the trigger options that are there, and `-` where none is
abbrev pub flags_word : Bool → Bool → Bool → List ℕ
flags_word dchg qchg dupd =
    if dchg then (if qchg then (if dupd then codes "dqu" else codes "dq") else (if dupd then codes "du" else codes "d"))
    else (if qchg then (if dupd then codes "qu" else codes "q") else (if dupd then codes "u" else codes "-"))

-- a word after a space
abbrev pub spaced : List ℕ → List ℕ
spaced word = 32 ∷ word
