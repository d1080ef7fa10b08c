-- what the loops of `members::put` keep
use Rattle.std.proofs.Common.{◌≡◌, take, drop}
use Rattle.sv_base.specs.Data.{data_row}
use Rattle.sv_base.specs.Fields.{fields_of}
use Rattle.value_store.specs.Members.{leaves_in, row_with, values_at}
use Rattle.value_store.specs.Written.{adds}
use Rattle.value_store.proofs.members.+put.Given as goal

abbrev pub invariant-put_parts-loop-part : goal.invariant-put_parts-loop-part
invariant-put_parts-loop-part l = record {
  rest : l.rest ≡ drop (leaves_in (fields_of (take l.part-index l.parts))) l.fn.attrs;
  written : l.out ≡ adds l.fn.out (data_row (row_with (fields_of (take l.part-index l.parts)) (values_at l.fn.store l.fn.attrs)));
}
