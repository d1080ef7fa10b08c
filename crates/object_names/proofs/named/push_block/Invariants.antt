-- what the loops of `named::push_block` keep
use Rattle.std.proofs.Common.{◌≡◌, ◌++◌, map, take}
use Rattle.bay_model.specs.Model.{component}
use Rattle.bay_model.specs.Generated.{within, end_named}
use Rattle.sv_base.specs.ComponentTable.{comp_name, comp_type}
use Rattle.object_names.proofs.named.push_block.Given as goal

abbrev pub invariant-loop-comp : goal.invariant-loop-comp
invariant-loop-comp l = l.out.items ≡ l.initial.out.items ++ map (λ k. end_named (within l.item (comp_name k)) (component l.number k) (comp_type k)) (take l.comp-index l.comp-items)
