-- why `writing::push_pairs` answers as its contract says
use Rattle.std.proofs.lemmas.Result.{err_from_is_err_and}
use Rattle.run_record.proofs.writing.push_pairs.Goals as goal
use Rattle.list_laws.proofs.Appended.{still-begins}

pub returns-in_err-push_pair-clause-err : goal.returns-in_err-push_pair-clause-err
returns-in_err-push_pair-clause-err c =
    let failed = err_from_is_err_and c.from_residual.result c.from_residual.ensures.1 in
    rw (failed.1) (still-begins _ _ _ _ c.loop-pair.invariant c.in_err-push_pair.ensures.err)
