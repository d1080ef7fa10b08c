-- why `loading::Loading::read` answers as its contract says
use Rattle.std.proofs.Common.{sym, ap, ◌∙◌}
use Rattle.std.proofs.lemmas.Result.{IfOk-weaker}
use Rattle.run_record.specs.Seen.{seen, line_seen}
use Rattle.run_record.proofs.ToldLaws.{line-told}
use Rattle.load_run.proofs.loading.Loading.read.Goals as goal

pub play-requires-clause-ranges : goal.play-requires-clause-ranges
play-requires-clause-ranges c = (line-told c.args.line.now (line_seen c.in-Ok.line) (sym c.view_line.ensures.told ∙ ap seen c.in-Ok.is)).ranges

pub play-requires-else-matches-clause-ranges : goal.play-requires-else-matches-clause-ranges
play-requires-else-matches-clause-ranges c = (line-told c.args.line.now (line_seen c.in-Ok.line) (sym c.view_line.ensures.told ∙ ap seen c.in-Ok.is)).ranges

pub returns-then-matches : goal.returns-then-matches
returns-then-matches c = IfOk-weaker c.play.result _ _ (λ went follows yes. follows yes c.args.line.now (sym c.view_line.ensures.told ∙ ap seen c.in-Ok.is)) c.play.ensures

pub returns-else-matches : goal.returns-else-matches
returns-else-matches c = IfOk-weaker c.play-else-matches.result _ _ (λ went follows yes. follows yes c.args.line.now (sym c.view_line.ensures.told ∙ ap seen c.in-Ok.is)) c.play-else-matches.ensures
