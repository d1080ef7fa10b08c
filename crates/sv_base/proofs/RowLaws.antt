-- A list of values and the row that it is seen as give each other back.
use Rattle.std.proofs.Common.{◌≡◌, List, [], ◌∷◌, refl}
use Rattle.sv_base.specs.Tree.{Seen, Row, plain, structure, none, more, truth, int, uint, bits, time, stamp, text, octets, other}
use Rattle.sv_base.specs.Seen.{seen_of, row_of}
use Rattle.sv_base.specs.Same.{value_of, values_of}
use Rattle.sv_base.specs.declared.value.Value.{Value}
use Rattle.sv_base.specs.declared.value.Value.TheVariants as kinds

pub value-seen : (v : Value) → value_of (seen_of v) ≡ v
value-seen (kinds.Bool b) = refl
value-seen (kinds.Int z) = refl
value-seen (kinds.Uint n) = refl
value-seen (kinds.Bits b) = refl
value-seen (kinds.Time t) = refl
value-seen (kinds.Stamp t) = refl
value-seen (kinds.Text t) = refl
value-seen (kinds.Octets o) = refl
value-seen (kinds.Struct r) = refl
value-seen kinds.Other = refl

pub values-row : (vs : List Value) → values_of (row_of vs) ≡ vs
values-row [] = refl
values-row (v ∷ vs) = let one = value-seen v in let rest = values-row vs in cc

pub seen-value : (s : Seen) → seen_of (value_of s) ≡ s
seen-value (plain (truth b)) = refl
seen-value (plain (int z)) = refl
seen-value (plain (uint n)) = refl
seen-value (plain (bits b)) = refl
seen-value (plain (time s f q)) = refl
seen-value (plain (stamp m d)) = refl
seen-value (plain (text t)) = refl
seen-value (plain (octets o)) = refl
seen-value (plain other) = refl
seen-value (structure r) = refl

pub row-values : (r : Row) → row_of (values_of r) ≡ r
row-values none = refl
row-values (more s r) = let one = seen-value s in let rest = row-values r in cc

pub ruleset rows = (values-row, row-values)
