-- why `pdus::push_all` answers as its contract says
use Rattle.std.proofs.lemmas.Result.{err_from_is_err_and}
use Rattle.answer_text.proofs.pdus.push_all.Goals as goal
use Rattle.list_laws.proofs.Appended.{still-begins}

pub returns-in_err-push_pdu-clause-err : goal.returns-in_err-push_pdu-clause-err
returns-in_err-push_pdu-clause-err c =
    let failed = err_from_is_err_and c.from_residual.result c.from_residual.ensures.1 in
    rw (failed.1) (still-begins _ _ _ _ c.loop-pdu.invariant c.in_err-push_pdu.ensures.err)
