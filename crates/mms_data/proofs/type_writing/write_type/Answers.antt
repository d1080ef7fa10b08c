-- why `type_writing::write_type` answers as its contract says
use Rattle.std.proofs.Common.{arith}
use Rattle.sv_base.specs.Fields.{shape_of}
use Rattle.mms_data.proofs.FitLaws.{shape_fits}
use Rattle.mms_data.proofs.type_writing.write_type.Goals as goal

pub put_type-done-requires : goal.put_type-done-requires
put_type-done-requires c = shape_fits (shape_of c.args.kind.now) (omega (arith, c.type_len.ensures, c.if-type_len-eq4294967295.false))
