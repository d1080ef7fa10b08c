-- what the loops of `build::build` keep
use Rattle.std.proofs.Common.{◌≡◌, take, drop}
use Rattle.sv_base.specs.Fields.{fields_of}
use Rattle.sv_base.specs.Seen.{row_of}
use Rattle.value_store.specs.Members.{leaves_in, row_with}
use Rattle.node_reads.proofs.build.+build.Given as goal

abbrev pub invariant-build_parts-loop-part : goal.invariant-build_parts-loop-part
invariant-build_parts-loop-part l = record {
  rest : l.rest.items ≡ drop (leaves_in (fields_of (take l.part-index l.parts))) l.fn.rest.items;
  value : row_of l.values.items ≡ row_with (fields_of (take l.part-index l.parts)) l.fn.rest.items;
}
