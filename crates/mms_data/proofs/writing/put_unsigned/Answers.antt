-- why `writing::put_unsigned` answers as its contract says
use Rattle.mms_data.proofs.MinimalLaws.{uint_written, in_other_words}
use Rattle.mms_data.proofs.writing.put_unsigned.Goals as goal

pub returns-clause-ok : goal.returns-clause-ok
returns-clause-ok c = in_other_words _ _ _ _ _ (uint_written c.args.value) c.put_uint.ensures.ok
