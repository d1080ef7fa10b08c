use Rattle.std.proofs.Common.{refl}
use Rattle.mms_client.proofs.MeaningLaws.{no_read, no_write}
use Rattle.mms_client.proofs.meaning.outcome_of_answer.Goals as goal

pub returns-in-None : goal.returns-in-None
returns-in-None c = (refl, refl, no_read c.args.awaited c.in-Read.asked c.args.invoke c.args.tag c.args.body.now c.in-Read.is (rw c.in-None.is at c.in_ok-result-in-Read.ensures.nothing))

pub returns-in-None-write_result : goal.returns-in-None-write_result
returns-in-None-write_result c = (refl, refl, no_write c.args.awaited c.in-Write.asked c.args.invoke c.args.tag c.args.body.now c.in-Write.is c.in-None-write_result.ensures.nothing)
