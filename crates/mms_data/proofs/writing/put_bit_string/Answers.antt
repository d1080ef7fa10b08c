-- why `writing::put_bit_string` answers as its contract says
use Rattle.mms_data.proofs.MinimalLaws.{bits_written, in_other_words}
use Rattle.mms_data.proofs.writing.put_bit_string.Goals as goal

pub returns-clause-ok : goal.returns-clause-ok
returns-clause-ok c = in_other_words _ _ _ _ _ (bits_written c.args.bits.now c.requires) c.put_bits.ensures.ok
