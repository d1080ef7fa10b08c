-- What a write makes of the data set that a block reports (IEC 61850-7-2, BRCB attribute DatSet).
use Rattle.std.specs.Prelude.{ℕ, Option, None}
use Rattle.sv_base.specs.declared.value.Value.{Value}
use Rattle.sv_base.specs.declared.value.Value.TheVariants as kinds
use Rattle.sv_base.specs.declared.components.Comp.{Comp}
use Rattle.sv_base.specs.declared.components.Comp.TheVariants as comps
use Rattle.data_sets.specs.Books.{Book, number_referred}

-- the number of the data set that a written DatSet names; none where it names none, and where another component is written
abbrev pub named_by : Comp → Value → Book → Option ℕ
named_by comps.DatSet (kinds.Text t) book = number_referred t book
named_by _ _ book = None
