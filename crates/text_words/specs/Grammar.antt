-- What words spell: types, and the values of a type.
use Rattle.std.specs.Prelude.{◌≡◌, ◌≤◌, ◌<◌, ◌⊎◌, ◌^◌, ℕ, ℤ, pos, negsuc, true, List, [], ◌∷◌, length, codes}
use Rattle.std.specs.List.{list_all}
use Rattle.hex.specs.Hex.{IsBytes}
use Rattle.sv_base.specs.declared.value.Value.{Value}
use Rattle.sv_base.specs.declared.value.Value.TheVariants as values
use Rattle.sv_base.specs.declared.types.TypeOf.{TypeOf}
use Rattle.sv_base.specs.declared.types.TypeOf.TheVariants as types
use Rattle.text_words.specs.Numbers.{negatives, greatest}
use Rattle.text_words.specs.Values.{is_graphic}
use Rattle.text_words.specs.Spelled.{type_word, value_word}

-- a type that an attribute may have
abbrev pub IsType : TypeOf → Type 0
IsType types.Bool = Unit {0}
IsType (types.Int bits) = (bits ≡ 8) ⊎ ((bits ≡ 16) ⊎ ((bits ≡ 32) ⊎ (bits ≡ 64)))
IsType (types.Uint bits) = (bits ≡ 8) ⊎ ((bits ≡ 16) ⊎ (bits ≡ 32))
IsType (types.Bits count) = (1 ≤ count) × (count ≤ 64)
IsType types.Time = Unit {0}
IsType (types.Text most) = (1 ≤ most) × (most ≤ 255)
IsType (types.Octets most) = (1 ≤ most) × (most ≤ 255)
IsType _ = ⊥

-- two rows of bits have a name besides
abbrev pub SpellsType : List ℕ → TypeOf → Type 0
SpellsType word kind = (word ≡ type_word kind) ⊎ (((word ≡ codes "dbpos") × (kind ≡ types.Bits 2)) ⊎ ((word ≡ codes "quality") × (kind ≡ types.Bits 13)))

-- a number of n bits, in two's complement
abbrev pub FitsInt : ℕ → ℤ → Type 0
FitsInt bits (pos n) = n < negatives bits
FitsInt bits (negsuc n) = n < negatives bits

-- a value of a type
abbrev pub IsOfType : TypeOf → Value → Type 0
IsOfType types.Bool (values.Bool b) = Unit {0}
IsOfType (types.Int bits) (values.Int z) = FitsInt bits z
IsOfType (types.Uint bits) (values.Uint n) = n ≤ greatest bits
IsOfType (types.Bits count) (values.Bits bits) = length bits ≡ count
IsOfType types.Time (values.Time t) = (t.secs < 2 ^ 32) × (t.frac < 2 ^ 24) × (t.quality < 256)
IsOfType (types.Text most) (values.Text octets) = (length octets ≤ most) × (list_all is_graphic octets ≡ true)
IsOfType (types.Octets most) (values.Octets octets) = (length octets ≤ most) × IsBytes octets
IsOfType _ _ = ⊥

abbrev pub AreOfType : TypeOf → List Value → Type 0
AreOfType kind [] = Unit {0}
AreOfType kind (value ∷ more) = IsOfType kind value × AreOfType kind more

-- 0 of a signed type may have a `-`
abbrev pub SpellsValue : List ℕ → Value → Type 0
SpellsValue word value = (word ≡ value_word value) ⊎ ((word ≡ codes "-0") × (value ≡ values.Int (pos 0)))

abbrev pub SpellValues : List (List ℕ) → List Value → Type 0
SpellValues [] [] = Unit {0}
SpellValues (word ∷ more) (value ∷ rest) = SpellsValue word value × SpellValues more rest
SpellValues _ _ = ⊥
