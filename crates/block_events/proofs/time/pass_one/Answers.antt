-- why `time::pass_one` answers as its contract says
use Rattle.std.proofs.Common.{◌∙◌, ap, sym, subst}
use Rattle.set_view.specs.Shapes.{shapes_of}
use Rattle.data_sets.specs.Books.{nodes_in}
use Rattle.report_block.specs.Alls.{all_pieces, for_integrity}
use Rattle.report_block.specs.Coming.{arrived}
use Rattle.report_block.specs.Due.{IsBefore}
use Rattle.block_events.proofs.QuietLaws.{one-arrives, one-stays}
use Rattle.block_events.proofs.time.pass_one.Goals as goal

pub returns-then-not-has_come-clause-part : goal.returns-then-not-has_come-clause-part
returns-then-not-has_come-clause-part c =
    sym (one-arrives c.args.was c.args.now c.requires.later c.args.due c.args.part.now (c.has_come.ensures.late c.if-not-has_come.true) c.requires.quiet c.args.source.now.rows.now c.args.source.now.book.now c.args.source.now.store.now c.args.step)

pub returns-then-not-has_come-clause-quiet : goal.returns-then-not-has_come-clause-quiet
returns-then-not-has_come-clause-quiet c = one-stays c.args.was c.args.now c.requires.later c.args.due c.args.part.now (c.has_come.ensures.late c.if-not-has_come.true) c.requires.quiet

pub returns-clause-part : goal.returns-clause-part
returns-clause-part c =
    c.pass.ensures.passed ∙ ap (λ l. arrived c.args.was c.args.now c.args.step (all_pieces c.args.source.now.store.now l for_integrity) c.args.part.now) (c.view-set.ensures ∙ ap (λ k. shapes_of c.args.source.now.rows.now (nodes_in c.args.source.now.book.now k)) c.set.ensures)

pub returns-clause-quiet : goal.returns-clause-quiet
returns-clause-quiet c = λ now before. subst (IsBefore now) c.due_at.ensures before
