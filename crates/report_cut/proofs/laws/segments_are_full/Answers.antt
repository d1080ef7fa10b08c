-- why `laws::segments_are_full` answers as its contract says
use Rattle.report_cut.proofs.FitLaws.{pdus_fit, segmented_well, pdus_are_cut}
use Rattle.report_cut.proofs.laws.segments_are_full.Goals as goal

pub returns-clause-short : goal.returns-clause-short
returns-clause-short c = pdus_fit

pub returns-clause-segments : goal.returns-clause-segments
returns-clause-segments c = segmented_well

pub returns-clause-cut : goal.returns-clause-cut
returns-clause-cut c = pdus_are_cut
