-- why `reports::report_of` answers as its contract says
use Rattle.bay_model.specs.Named.{configured_model}
use Rattle.block_reports.proofs.reports.report_of.Goals as goal

pub returns : goal.returns
returns c = λ ks are. c.report_with.ensures.report (configured_model c.args.model.now) ks (c.in_ok-members.ensures ks are)
