-- why `blank::Blank::filled` answers as its contract says
use Rattle.std.proofs.Common.{◌++◌, subst, sym}
use Rattle.bay_model.specs.Named.{configured_model}
use Rattle.block_reports.specs.Blanks.{Blank, AreFew}
use Rattle.block_reports.proofs.blank.Blank.filled.Goals as goal

pub returns-clause-report : goal.returns-clause-report
returns-clause-report c = λ ks few.
    let e = c.args.offer.now.entry in
    let own = subst (λ (b : Blank). AreFew b.members (e.first.now ++ e.second.now) ks) (sym c.self.view_is) few in
    c.report_with.ensures.report (configured_model c.args.model.now) ks (c.members_in-members.ensures.members ks own)
