-- why `answers::push_answer` answers as its contract says
use Rattle.std.proofs.Common.{sym, ap, ◌∙◌}
use Rattle.run_record.specs.Seen.{seen, line_seen}
use Rattle.run_record.proofs.ToldLaws.{line-told}
use Rattle.race_records.proofs.answers.push_answer.Goals as goal

pub tell-requires-clause-ranges : goal.tell-requires-clause-ranges
tell-requires-clause-ranges c = (line-told c.as_slice.result.now (line_seen c.in-Ok.view) (sym c.view_line.ensures.told ∙ ap seen c.in-Ok.is)).ranges
