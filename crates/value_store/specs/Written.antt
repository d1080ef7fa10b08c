-- What is written into memory that was made before.
use Rattle.std.specs.Prelude.{ℕ, ◌<◌, ◌^◌, List, ◌++◌, length}
use Rattle.sv_base.specs.declared.value.Value.{Value}
use Rattle.sv_base.specs.declared.value.Value.TheVariants as kinds
use Rattle.sv_base.specs.Filled.{Filled}

abbrev pub adds : Filled ℕ → List ℕ → Filled ℕ
adds out octets = record { items = out.items ++ octets; room = out.room }

-- the length of its content can be spelled, and the parts of a second
abbrev pub IsShort : Value → Type 0
IsShort (kinds.Bits b) = length b < 2 ^ 32
IsShort (kinds.Text t) = length t < 2 ^ 32
IsShort (kinds.Octets o) = length o < 2 ^ 32
IsShort (kinds.Time t) = t.frac < 2 ^ 24
IsShort v = Unit {0}
