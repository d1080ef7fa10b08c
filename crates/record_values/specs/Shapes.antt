-- The value that a client writes to a component, read by the shape of its text.
use Rattle.std.specs.Prelude.{ℕ, Bool, true, false, ◌==◌, List, [], ◌∷◌, map, codes, Option, None, Some, if◌then◌else◌}
use Rattle.std.specs.List.{list_all}
use Rattle.sv_base.specs.declared.value.Value.{Value}
use Rattle.sv_base.specs.declared.value.Value.TheVariants as values
use Rattle.sv_base.specs.declared.components.Comp.{Comp}
use Rattle.sv_base.specs.declared.types.TypeOf.{TypeOf}
use Rattle.sv_base.specs.declared.types.TypeOf.TheVariants as types
use Rattle.sv_base.specs.ComponentTable.{comp_type}
use Rattle.text_words.specs.Words.{behind}
use Rattle.text_words.specs.Numbers.{number_at, int_at}
use Rattle.text_words.specs.Values.{read_as, truth_at, is_binary, is_graphic, hex_at}

-- a component that is a bit string, or a signed number, by its type
abbrev pub is_bit_type : TypeOf → Bool
is_bit_type (types.Bits count) = true
is_bit_type _ = false

abbrev pub is_bits : Comp → Bool
is_bits comp = is_bit_type (comp_type comp)

abbrev pub is_int_type : TypeOf → Bool
is_int_type (types.Int width) = true
is_int_type _ = false

abbrev pub is_int : Comp → Bool
is_int comp = is_int_type (comp_type comp)

-- digits 0 and 1, the first bit first
abbrev pub bits_of : List ℕ → Option Value
bits_of word = if list_all is_binary word then Some (values.Bits (map (λ octet. octet == 49) word)) else None

-- a signed number, with or without `-`
abbrev pub integer_of : List ℕ → Option Value
integer_of word = read_as values.Int (int_at 64 word)

-- a number without a sign, or a signed one where it has `-`
abbrev pub signed_of : List ℕ → Option (List ℕ) → Option Value
signed_of word None = read_as values.Uint (number_at word)
signed_of word (Some digits) = integer_of word

abbrev pub number_of : Comp → List ℕ → Option Value
number_of comp word = if is_int comp then integer_of word else signed_of word (behind (codes "-") word)

abbrev pub text_of : List ℕ → Option Value
text_of octets = if list_all is_graphic octets then Some (values.Text octets) else None

-- no truth value: `'` and a text, `x` and octets in hexadecimal, or digits
unfoldable pub marked_at : Comp → List ℕ → Option Value
marked_at comp [] = None
marked_at comp (mark ∷ octets) =
    if mark == 39 then text_of octets
    else if mark == 120 then read_as values.Octets (hex_at octets)
    else if is_bits comp then bits_of (mark ∷ octets)
    else number_of comp (mark ∷ octets)

abbrev pub truth_or : Option Bool → Option Value → Option Value
truth_or None other = other
truth_or (Some b) other = Some (values.Bool b)

unfoldable pub shape_at : Comp → List ℕ → Option Value
shape_at comp word = truth_or (truth_at word) (marked_at comp word)
