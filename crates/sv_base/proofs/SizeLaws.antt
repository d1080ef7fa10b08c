-- Each value of a row is smaller than the structure of the row, and each component than the structure's type: for a
-- recursion that goes down by `as_slice`.
use Rattle.std.proofs.Common.{◌≡◌, ◌+◌, ◌*◌, ◌<◌, ◌≤◌, List, [], ◌∷◌, ap, arith}
use denote.Param.Weighed.{most}
use Rattle.sv_base.specs.Tree.{Row, weight_row}
use Rattle.sv_base.specs.Seen.{row_of}
use Rattle.sv_base.specs.Falls.{deep-le, most-parts-le}
use Rattle.sv_base.specs.declared.value.Value.{Value}
use Rattle.sv_base.specs.declared.value.Value.TheVariants as kinds
use Rattle.sv_base.specs.declared.value.Values.TheDeep.{size-Value}
use Rattle.sv_base.specs.Types.{Fields, weight_fields}
use Rattle.sv_base.specs.Fields.{fields_of}
use Rattle.sv_base.specs.declared.types.Part1.{Part1}
use Rattle.sv_base.specs.declared.types.TypeOf.TheVariants as types
use Rattle.sv_base.specs.declared.types.Parts.TheDeep.{deep-Part1, size-Part1, size-TypeOf}

most-size-le : (vs : List Value) → most size-Value vs ≤ 2 * weight_row (row_of vs) + 1
most-size-le [] = omega arith
most-size-le (v ∷ vs) = omega (arith, deep-le v, most-size-le vs)

pub most-size-lt : (vs : List Value) (r : Row) → row_of vs ≡ r → most size-Value vs < size-Value (kinds.Struct r)
most-size-lt vs r is = omega (arith, most-size-le vs, ap weight_row is)

most-parts-size-le : (ps : List Part1) → most size-Part1 ps ≤ 3 * most deep-Part1 ps + 2
most-parts-size-le [] = omega arith
most-parts-size-le (p ∷ ps) = omega (arith, most-parts-size-le ps)

pub most-parts-size-lt : (ps : List Part1) (f : Fields) → fields_of ps ≡ f → most size-Part1 ps < size-TypeOf (types.Struct f)
most-parts-size-lt ps f is = omega (arith, most-parts-size-le ps, most-parts-le ps, ap weight_fields is)
