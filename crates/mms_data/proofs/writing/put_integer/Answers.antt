-- why `writing::put_integer` answers as its contract says
use Rattle.std.proofs.Common.{w64}
use Rattle.std.proofs.lemmas.Int.{to_z-of_z}
use Rattle.mms_data.proofs.MinimalLaws.{int_written, in_other_words}
use Rattle.mms_data.proofs.writing.put_integer.Goals as goal

pub returns-clause-ok : goal.returns-clause-ok
returns-clause-ok c = in_other_words _ _ _ _ _ (int_written c.args.value c.ranges.value.sfits) (rw (← to_z-of_z w64 c.args.value c.ranges.value) c.put_int.ensures.ok)
