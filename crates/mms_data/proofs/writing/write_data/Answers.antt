-- why `writing::write_data` answers as its contract says
use Rattle.std.proofs.Common.{arith}
use Rattle.sv_base.specs.Seen.{seen_of}
use Rattle.mms_data.proofs.FitLaws.{seen_fits}
use Rattle.mms_data.proofs.writing.write_data.Goals as goal

pub put_value-done-requires-clause-fits : goal.put_value-done-requires-clause-fits
put_value-done-requires-clause-fits c = seen_fits (seen_of c.args.value.now) (omega (arith, c.data_len.ensures, c.if-data_len-eq4294967295.false)) c.requires.fractions
