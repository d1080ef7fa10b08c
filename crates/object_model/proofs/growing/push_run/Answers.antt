-- why `growing::push_run` answers as its contract says
use Rattle.std.proofs.Common.{sym, ◌∙◌}
use Rattle.object_model.proofs.RunLaws.{run-here, run-elsewhere}
use Rattle.object_model.proofs.growing.push_run.Goals as goal

pub returns-in_ok-push_lines : goal.returns-in_ok-push_lines
returns-in_ok-push_lines c = run-here c.args.run c.args.domain.now c.args.out.now.items c.push_lines.new.out.items c.requires (sym c.is_same.ensures ∙ c.if-is_same.true) c.in_ok-push_lines.ensures

pub returns-else-is_same : goal.returns-else-is_same
returns-else-is_same c = run-elsewhere c.args.run c.args.domain.now c.args.out.now.items c.requires (sym c.is_same.ensures ∙ c.if-is_same.false)
