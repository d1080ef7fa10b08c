-- why `time::pass_due` answers as its contract says
use Rattle.std.proofs.Common.{sym}
use Rattle.block_events.proofs.QuietLaws.{none-arrives, stays-quiet}
use Rattle.block_events.proofs.time.pass_due.Goals as goal

pub returns-then-not-have_come-clause-parts : goal.returns-then-not-have_come-clause-parts
returns-then-not-have_come-clause-parts c =
    sym (none-arrives c.args.was c.args.now c.requires.later c.args.dues.now (c.have_come.ensures c.if-not-have_come.true) c.args.source.now.rows.now c.args.source.now.book.now c.args.source.now.store.now c.args.step c.args.parts.now.items c.requires.quiet)

pub returns-then-not-have_come-clause-quiet : goal.returns-then-not-have_come-clause-quiet
returns-then-not-have_come-clause-quiet c = stays-quiet c.args.was c.args.now c.requires.later c.args.dues.now (c.have_come.ensures c.if-not-have_come.true) c.args.parts.now.items c.requires.quiet
