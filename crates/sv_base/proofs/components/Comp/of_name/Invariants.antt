-- what the loops of `components::Comp::of_name` keep
use Rattle.std.proofs.Common.{◌≡◌, take, None}
use Rattle.std.specs.List.{find}
use Rattle.std.specs.Str.{bytes_eq}
use Rattle.sv_base.specs.ComponentTable.{comp_name}
use Rattle.sv_base.proofs.components.Comp.of_name.Given as goal

abbrev pub invariant-loop-comp : goal.invariant-loop-comp
invariant-loop-comp l = find (λ k. bytes_eq l.name (comp_name k)) (take l.comp-index l.comp-items) ≡ None
