-- why `cutting::cut` answers as its contract says
use Rattle.std.proofs.Common.{ℕ, ◌≤◌, List, length, sym, subst}
use Rattle.std.specs.List.{AllByRecursion}
use Rattle.report_cut.specs.Pdus.{IsCut}
use Rattle.report_cut.proofs.FitLaws.{pdus_fit, pdus_are_cut}
use Rattle.report_cut.proofs.cutting.cut.Goals as goal

pub returns-clause-short : goal.returns-clause-short
returns-clause-short c = subst (λ (p : List (List ℕ)). AllByRecursion (λ o. length o ≤ c.args.size) p) (sym c.in_ok-pdus.ensures) (pdus_fit c.args.report.now c.args.size c.requires.report c.requires.least)

pub returns-clause-segments : goal.returns-clause-segments
returns-clause-segments c = subst (λ (p : List (List ℕ)). IsCut c.args.report.now c.args.size p) (sym c.in_ok-pdus.ensures) (pdus_are_cut c.args.report.now c.args.size c.requires.report c.requires.least)
