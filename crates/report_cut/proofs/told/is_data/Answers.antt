-- why `told::is_data` answers as its contract says
use Rattle.std.proofs.Common.{refl}
use Rattle.ber_view.specs.View.{spot}
use Rattle.report_cut.proofs.ContentLaws.{is_data-viewed}
use Rattle.report_cut.proofs.told.is_data.Goals as goal

pub returns-in-Ok : goal.returns-in-Ok
returns-in-Ok c = is_data-viewed (spot c.args.part.now) _ _ c.in-Ok.ensures.exact refl

pub returns-in-Err : goal.returns-in-Err
returns-in-Err c = is_data-viewed (spot c.args.part.now) _ _ c.in-Err.ensures.exact refl
