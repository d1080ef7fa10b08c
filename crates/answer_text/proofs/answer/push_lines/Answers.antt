-- why `answer::push_lines` answers as its contract says
use Rattle.answer_text.proofs.answer.push_lines.Goals as goal

pub returns-in-Wrote-clause-ok : goal.returns-in-Wrote-clause-ok
returns-in-Wrote-clause-ok c = rw c.in-Wrote.is (c.push_outcome.ensures.ok c.args.model.now c.args.shape)
