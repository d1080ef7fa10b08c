-- what the loops of `largest::largest` keep
use Rattle.std.proofs.Common.{◌≡◌, take, min}
use Rattle.sv_base.specs.Fields.{fields_of}
use Rattle.bay_model.specs.Places.{largest_fields}
use Rattle.name_tree.proofs.largest.+largest.Given as goal

abbrev pub invariant-largest_parts-loop-part : goal.invariant-largest_parts-loop-part
invariant-largest_parts-loop-part l = l.sum ≡ min (largest_fields (fields_of (take l.part-index l.parts))) 4294967295
