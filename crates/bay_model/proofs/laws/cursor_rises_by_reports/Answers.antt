-- why `laws::cursor_rises_by_reports` answers as its contract says
use Rattle.bay_model.proofs.CursorLaws.{cursor_rests, reports_raise}
use Rattle.bay_model.proofs.laws.cursor_rises_by_reports.Goals as goal

pub returns-clause-rests : goal.returns-clause-rests
returns-clause-rests c = cursor_rests

pub returns-clause-raised : goal.returns-clause-raised
returns-clause-raised c = reports_raise
