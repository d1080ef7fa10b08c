-- The words of types and of trigger options.
use Rattle.std.specs.Prelude.{ℕ, Bool, true, false, List, codes, Option, Some, None, if◌then◌else◌}
use Rattle.std.specs.Str.{bytes_eq}
use Rattle.sv_base.specs.declared.types.TypeOf.{TypeOf}
use Rattle.sv_base.specs.declared.types.TypeOf.TheVariants as types
use Rattle.text_words.specs.Words.{behind}
use Rattle.text_words.specs.Numbers.{number_within}
use Rattle.text_words.specs.declared.types.Flags.{Flags}

abbrev pub made : (ℕ → TypeOf) → Option ℕ → Option TypeOf
made kind None = None
made kind (Some n) = Some (kind n)

-- a type whose size, at most this, the digits after its name spell; where it is not that type, another
abbrev pub sized : (ℕ → TypeOf) → ℕ → Option (List ℕ) → Option TypeOf → Option TypeOf
sized kind most None other = other
sized kind most (Some digits) other = made kind (number_within 1 most digits)

unfoldable pub sized_type_at : List ℕ → Option TypeOf
sized_type_at word = sized types.Bits 64 (behind (codes "bits") word)
    (sized types.Text 255 (behind (codes "text") word)
    (sized types.Octets 255 (behind (codes "octets") word) None))

unfoldable pub type_at : List ℕ → Option TypeOf
type_at word =
    if bytes_eq word (codes "bool") then Some types.Bool
    else if bytes_eq word (codes "int8") then Some (types.Int 8)
    else if bytes_eq word (codes "int16") then Some (types.Int 16)
    else if bytes_eq word (codes "int32") then Some (types.Int 32)
    else if bytes_eq word (codes "int64") then Some (types.Int 64)
    else if bytes_eq word (codes "uint8") then Some (types.Uint 8)
    else if bytes_eq word (codes "uint16") then Some (types.Uint 16)
    else if bytes_eq word (codes "uint32") then Some (types.Uint 32)
    else if bytes_eq word (codes "dbpos") then Some (types.Bits 2)
    else if bytes_eq word (codes "quality") then Some (types.Bits 13)
    else if bytes_eq word (codes "time") then Some types.Time
    else sized_type_at word

abbrev pub flags : Bool → Bool → Bool → Flags
flags dchg qchg dupd = record { dchg = dchg; qchg = qchg; dupd = dupd }

-- `-`, or some of the letters d, q and u in this order: a change of the data, a change of the quality, an update
unfoldable pub flags_at : List ℕ → Option Flags
flags_at word =
    if bytes_eq word (codes "-") then Some (flags false false false)
    else if bytes_eq word (codes "d") then Some (flags true false false)
    else if bytes_eq word (codes "q") then Some (flags false true false)
    else if bytes_eq word (codes "u") then Some (flags false false true)
    else if bytes_eq word (codes "dq") then Some (flags true true false)
    else if bytes_eq word (codes "du") then Some (flags true false true)
    else if bytes_eq word (codes "qu") then Some (flags false true true)
    else if bytes_eq word (codes "dqu") then Some (flags true true true)
    else None
