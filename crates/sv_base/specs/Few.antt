-- What is in a list of few.
use Rattle.std.specs.Prelude.{List}
use Rattle.sv_base.specs.declared.few.Items.{Items}
use Rattle.sv_base.specs.declared.few.Items.TheVariants as lists

abbrev pub few_items : {T : Type 0} → Items T → List T
few_items (lists.One xs) = xs
few_items (lists.Many xs) = xs.items
