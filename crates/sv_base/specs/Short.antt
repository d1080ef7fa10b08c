-- The octets of a short row.
use Rattle.std.specs.Prelude.{ℕ, ◌≤◌, List, take}
use Rattle.sv_base.specs.declared.short.Held.{Held}
use Rattle.sv_base.specs.declared.short.Held.TheVariants as places

abbrev pub held : Held → List ℕ
held (places.Here len octets) = take len octets
held (places.Heap octets) = octets.items

abbrev pub IsWithin : Held → Type 0
IsWithin (places.Here len octets) = len ≤ 30
IsWithin (places.Heap octets) = Unit {0}
